use Rattle.asp_model.specs.Shapes.{tree_of}
use Rattle.checkpoint_text.specs.Reading.{term}
use Rattle.checkpoint_items.proofs.ListLemmas.{AreRead}
use Rattle.checkpoint_files.proofs.running.read_terms.Given as goal

abbrev pub invariant-loop : goal.invariant-loop
invariant-loop l = AreRead term tree_of l.count l.initial.items l.counter l.terms.items l.items
