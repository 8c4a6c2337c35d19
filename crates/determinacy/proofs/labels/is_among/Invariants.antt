use Rattle.std.proofs.Common.{◌≡◌, drop, map}
use Rattle.asp_model.specs.Term.{has_text}
use Rattle.determinacy.specs.Walks.{label_text}
use Rattle.determinacy.proofs.labels.is_among.Given as goal

abbrev pub invariant-loop-place : goal.invariant-loop-place
invariant-loop-place l = has_text l.label.text (map label_text (drop l.place l.labels)) ≡ has_text l.label.text (map label_text l.labels)
