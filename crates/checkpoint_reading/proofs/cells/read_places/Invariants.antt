use Rattle.std.proofs.Common.{ℕ}
use Rattle.checkpoint_text.specs.Reading.{place}
use Rattle.checkpoint_items.proofs.ListLemmas.{AreRead}
use Rattle.checkpoint_reading.proofs.cells.read_places.Given as goal

abbrev pub invariant-loop : goal.invariant-loop
invariant-loop l = AreRead place (λ (k : ℕ). k) l.count l.initial.items l.counter l.places.items l.items
