use Rattle.std.proofs.Common.{◌≤◌, ◌-◌, length, take}
use Rattle.object_store.specs.Index.{IsIndexed}
use Rattle.object_store.proofs.index.Index.of.Given as goal

abbrev pub invariant-loop-place : goal.invariant-loop-place
invariant-loop-place l = record {
  within : l.place ≤ length l.cells.items;
  so_far : IsIndexed l.index (take l.place l.cells.items);
}

abbrev pub decreases-loop-place : goal.decreases-loop-place
decreases-loop-place l = length l.cells.items - l.place
