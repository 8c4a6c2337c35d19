use Rattle.std.proofs.Common.{◌≡◌, None, take}
use Rattle.code_table.specs.Classes.{number_of}
use Rattle.code_compiler.proofs.scope.captured_slot.Given as goal

abbrev pub invariant-loop-i : goal.invariant-loop-i
invariant-loop-i l = number_of l.name (take l.i l.captured) ≡ None
