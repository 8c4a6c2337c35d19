use Rattle.std.proofs.Common.{ℕ}
use Rattle.checkpoint_text.specs.Reading.{small}
use Rattle.checkpoint_items.proofs.ListLemmas.{AreRead}
use Rattle.checkpoint_items.proofs.names.read_path.Given as goal

abbrev pub invariant-loop : goal.invariant-loop
invariant-loop l = AreRead small (λ (k : ℕ). k) l.count l.initial.items l.counter l.path.items l.items
