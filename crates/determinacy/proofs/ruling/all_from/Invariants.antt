use Rattle.std.proofs.Common.{◌≡◌, drop, map}
use Rattle.std.specs.List.{list_all}
use Rattle.asp_model.specs.Configuration.{From}
use Rattle.asp_model.specs.Shapes.{reception_shape}
use Rattle.asp_model.specs.Step.{same_reception}
use Rattle.determinacy.proofs.ruling.all_from.Given as goal

abbrev pub invariant-loop-place : goal.invariant-loop-place
invariant-loop-place l = list_all (same_reception (From l.name)) (map reception_shape (drop l.place l.log)) ≡ list_all (same_reception (From l.name)) (map reception_shape l.log)
