use Rattle.std.proofs.Common.{◌≡◌, map, drop}
use Rattle.std.specs.List.{starts_with}
use Rattle.asp_model.specs.Shapes.{reception_shape}
use Rattle.asp_model.specs.Step.{same_reception}
use Rattle.class_search.proofs.logs.begins.Given as goal

abbrev pub invariant-loop-place : goal.invariant-loop-place
invariant-loop-place l = starts_with same_reception (map reception_shape (drop l.place l.log)) (map reception_shape (drop l.place l.other)) ≡ starts_with same_reception (map reception_shape l.log) (map reception_shape l.other)
