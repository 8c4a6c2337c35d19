use Rattle.std.proofs.Common.{ℕ, ◌^◌}
use Rattle.checkpoint_text.specs.Reading.{number_to}
use Rattle.checkpoint_items.proofs.ListLemmas.{AreRead}
use Rattle.checkpoint_items.proofs.names.read_bytes.Given as goal

abbrev pub invariant-loop : goal.invariant-loop
invariant-loop l = AreRead (number_to (2 ^ 8)) (λ (b : ℕ). b) l.count l.initial.items l.counter l.bytes.items l.items
