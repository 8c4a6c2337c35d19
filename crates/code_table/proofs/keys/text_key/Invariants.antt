use Rattle.std.proofs.Common.{◌≡◌, drop}
use Rattle.code_table.specs.Keys.{text_key}
use Rattle.code_table.proofs.keys.text_key.Given as goal

abbrev pub invariant-loop-i : goal.invariant-loop-i
invariant-loop-i l = l.key ≡ text_key (drop l.i l.bytes)
