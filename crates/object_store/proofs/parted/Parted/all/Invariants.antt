use Rattle.std.proofs.Common.{◌≡◌, ◌+◌, ◌-◌, ◌≤◌, length, take}
use Rattle.object_store.proofs.parted.Parted.all.Given as goal

abbrev pub invariant-loop-at : goal.invariant-loop-at
invariant-loop-at l = record {
  within : l.at ≤ l.count;
  count : l.count ≡ length l.self.items;
  so_far : l.columns.items ≡ take l.at l.self.items;
  free : l.self.free + (l.count - l.at) ≤ l.columns.free;
}

abbrev pub decreases-loop-at : goal.decreases-loop-at
decreases-loop-at l = l.count - l.at
