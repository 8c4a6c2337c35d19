use Rattle.asp_model.specs.Names.{Text}
use Rattle.checkpoint_text.specs.Reading.{text}
use Rattle.checkpoint_items.proofs.ListLemmas.{AreRead}
use Rattle.checkpoint_items.proofs.names.read_words.Given as goal

abbrev pub invariant-loop : goal.invariant-loop
invariant-loop l = AreRead text (λ (t : Text). t) l.count l.initial.items l.counter l.words.items l.items
