use Rattle.std.proofs.Common.{◌≡◌, ◌++◌, take}
use Rattle.std.specs.List.{flat_map}
use Rattle.code_table.specs.Uses.{use_at}
use Rattle.code_compiler.proofs.methods.pass_uses.Given as goal

abbrev pub invariant-loop-slot : goal.invariant-loop-slot
invariant-loop-slot l = l.uses.items ≡ l.initial.uses.items ++ flat_map (use_at l.captured) (take l.slot-index l.inner)
