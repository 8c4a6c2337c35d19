use Rattle.std.proofs.Common.{◌≡◌, drop, map}
use Rattle.asp_model.specs.Term.{has_text}
use Rattle.serve_rules.specs.Labels.{label_text}
use Rattle.serve_rules.proofs.wanted.is_one_of.Given as goal

abbrev pub invariant-loop-other : goal.invariant-loop-other
invariant-loop-other l = has_text l.label.text (map label_text l.labels) ≡ has_text l.label.text (map label_text (drop l.other-index l.labels))
