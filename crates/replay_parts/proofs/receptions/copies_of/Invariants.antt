use Rattle.std.proofs.Common.{◌≡◌, map, take}
use Rattle.asp_model.specs.Shapes.{reception_shape}
use Rattle.replay_parts.proofs.receptions.copies_of.Given as goal

abbrev pub invariant-loop-reception : goal.invariant-loop-reception
invariant-loop-reception l = map reception_shape l.copies.items ≡ map reception_shape (take l.reception-index l.log)
