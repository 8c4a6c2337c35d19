use Rattle.std.proofs.Common.{◌≡◌, drop, map}
use Rattle.determinacy.specs.Walks.{chosen, label_text}
use Rattle.determinacy.proofs.labels.next_among.Given as goal

abbrev pub invariant-loop-place : goal.invariant-loop-place
invariant-loop-place l = chosen (map label_text l.labels) (drop l.place l.arrivals) ≡ chosen (map label_text l.labels) (drop l.from l.arrivals)
