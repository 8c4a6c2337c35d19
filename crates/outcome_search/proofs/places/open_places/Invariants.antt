use Rattle.std.proofs.Common.{◌-◌, map, length}
use Rattle.asp_model.specs.Shapes.{reception_shape}
use Rattle.outcome_search.proofs.PlaceLemmas.{AreOneFrom}
use Rattle.outcome_search.proofs.places.open_places.Given as goal

abbrev pub invariant-loop-back : goal.invariant-loop-back
invariant-loop-back l = AreOneFrom (reception_shape l.last) (length l.log - l.back) (map reception_shape l.log)
