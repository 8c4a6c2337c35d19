use Rattle.std.proofs.Common.{◌<◌, ◌≤◌, ◌-◌, get_or, length}
use Rattle.object_store.specs.declared.parts.Part.{Part}
use Rattle.object_store.proofs.parts.part_at.Given as goal

abbrev pub invariant-loop-high : goal.invariant-loop-high
invariant-loop-high l = record {
  order : l.low < l.high;
  within : l.high ≤ length l.parts.items;
  begun : (d : Part) → (get_or l.parts.items l.low d).start ≤ l.at;
  ended : (d : Part) → l.high < length l.parts.items → l.at < (get_or l.parts.items l.high d).start;
}

abbrev pub decreases-loop-high : goal.decreases-loop-high
decreases-loop-high l = l.high - l.low
