use Rattle.std.proofs.Common.{◌≡◌, ◌++◌, drop}
use Rattle.std.specs.Prelude.{string_bytes}
use Rattle.std.specs.List.{flat_map}
use Rattle.checkpoint_text.specs.Items.{text_items}
use Rattle.checkpoint_text.specs.Writing.{words}
use Rattle.checkpoint_text.proofs.put.put_labels.Given as goal

abbrev pub invariant-loop-label : goal.invariant-loop-label
invariant-loop-label l = string_bytes l.text ++ words (flat_map (λ l. text_items l.text) (drop l.label-index l.labels)) ≡ string_bytes l.initial.text ++ words (flat_map (λ l. text_items l.text) l.labels)
