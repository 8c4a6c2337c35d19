use Rattle.std.proofs.Common.{◌≡◌, drop, map}
use Rattle.std.specs.Cmp.Lexicographic.{pointwise}
use Rattle.asp_model.specs.Shapes.{reception_shape}
use Rattle.asp_model.specs.Step.{same_reception}
use Rattle.replay_parts.proofs.receptions.same_log.Given as goal

abbrev pub invariant-loop-place : goal.invariant-loop-place
invariant-loop-place l = pointwise same_reception (map reception_shape (drop l.place l.log)) (map reception_shape (drop l.place l.other)) ≡ pointwise same_reception (map reception_shape l.log) (map reception_shape l.other)
