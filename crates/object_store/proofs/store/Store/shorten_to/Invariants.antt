use Rattle.std.proofs.Common.{◌≡◌, ◌≤◌, length, take}
use Rattle.object_store.proofs.store.Store.shorten_to.Given as goal

abbrev pub invariant-loop-self : goal.invariant-loop-self
invariant-loop-self l = record {
  within : l.count ≤ length l.self.cells;
  kept : take l.count l.self.cells ≡ take l.count l.fn.self.cells;
  spare : l.self.spare ≡ l.fn.self.spare;
}

abbrev pub decreases-loop-self : goal.decreases-loop-self
decreases-loop-self l = length l.self.cells
