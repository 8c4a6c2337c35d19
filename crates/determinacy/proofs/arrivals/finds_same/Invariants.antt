use Rattle.std.proofs.Common.{◌≡◌, ◌≤◌, drop, length, map}
use Rattle.std.specs.Cmp.Lexicographic.{pointwise}
use Rattle.law_services.specs.Told.{same_arrival}
use Rattle.determinacy.specs.Walks.{chosen, label_text}
use Rattle.determinacy.proofs.arrivals.finds_same.Given as goal

abbrev pub invariant-loop-place : goal.invariant-loop-place
invariant-loop-place l = (l.from ≤ length l.others)
    × (pointwise same_arrival (chosen (map label_text l.labels) (drop l.place l.arrivals)) (chosen (map label_text l.labels) (drop l.from l.others))
    ≡ pointwise same_arrival (chosen (map label_text l.labels) l.arrivals) (chosen (map label_text l.labels) l.others))
