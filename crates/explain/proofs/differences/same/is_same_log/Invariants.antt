use Rattle.std.proofs.Common.{◌≡◌, map, take}
use Rattle.asp_model.specs.Shapes.{reception_shape}
use Rattle.explain.proofs.differences.same.is_same_log.Given as goal

abbrev pub invariant-loop-i : goal.invariant-loop-i
invariant-loop-i l = map reception_shape (take l.i l.log) ≡ map reception_shape (take l.i l.other)
