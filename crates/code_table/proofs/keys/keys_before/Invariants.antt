use Rattle.std.proofs.Common.{◌≡◌, ◌+◌, ◌-◌, ◌≤◌, length, drop}
use Rattle.code_table.specs.Keys.{keys_before}
use Rattle.code_table.proofs.keys.keys_before.Given as goal

abbrev pub invariant-loop-number : goal.invariant-loop-number
invariant-loop-number l = record {
  within : l.number ≤ length l.keys;
  rest : keys_before l.keys l.key ≡ l.number + keys_before (drop l.number l.keys) l.key;
}

abbrev pub decreases-loop-number : goal.decreases-loop-number
decreases-loop-number l = length l.keys - l.number
