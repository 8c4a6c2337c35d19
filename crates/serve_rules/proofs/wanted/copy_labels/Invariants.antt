use Rattle.std.proofs.Common.{◌≡◌, map, take}
use Rattle.serve_rules.specs.Labels.{label_text}
use Rattle.serve_rules.proofs.wanted.copy_labels.Given as goal

-- those before this one are copied
abbrev pub invariant-loop-label : goal.invariant-loop-label
invariant-loop-label l = map label_text l.items.items ≡ map label_text (take l.label-index l.labels)
