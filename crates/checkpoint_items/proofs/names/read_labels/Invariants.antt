use Rattle.asp_model.specs.declared.word.Label.{Label}
use Rattle.checkpoint_text.specs.Reading.{text}
use Rattle.checkpoint_items.proofs.ListLemmas.{AreRead}
use Rattle.checkpoint_items.proofs.names.read_labels.Given as goal

abbrev pub invariant-loop : goal.invariant-loop
invariant-loop l = AreRead text (λ (x : Label). x.text) l.count l.initial.items l.counter l.labels.items l.items
