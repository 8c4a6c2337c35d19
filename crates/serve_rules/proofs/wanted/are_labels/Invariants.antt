use Rattle.std.proofs.Common.{◌≡◌, map, take}
use Rattle.serve_rules.specs.Labels.{label_text}
use Rattle.serve_rules.proofs.wanted.are_labels.Given as goal

-- those before this place are alike
abbrev pub invariant-loop-place : goal.invariant-loop-place
invariant-loop-place l = map label_text (take l.place l.labels) ≡ map label_text (take l.place l.wanted)
