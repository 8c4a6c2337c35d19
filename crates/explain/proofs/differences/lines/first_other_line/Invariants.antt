use Rattle.std.proofs.Common.{◌≡◌, map, take}
use Rattle.asp_model.specs.Shapes.{line_shape}
use Rattle.explain.proofs.differences.lines.first_other_line.Given as goal

abbrev pub invariant-loop-i : goal.invariant-loop-i
invariant-loop-i l = map line_shape (take l.i l.lines) ≡ map line_shape (take l.i l.others)
