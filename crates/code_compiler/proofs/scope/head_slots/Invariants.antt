use Rattle.std.proofs.Common.{◌≡◌, ◌∷◌, length, take}
use Rattle.code_table.specs.Fitting.{slots_from}
use Rattle.code_compiler.specs.Slots.{environment}
use Rattle.code_compiler.proofs.scope.head_slots.Given as goal

abbrev pub invariant-loop-name : goal.invariant-loop-name
invariant-loop-name l = environment l.bound.items ≡ slots_from (length l.captured) (l.method.slf ∷ take l.name-index l.method.parameters.items)
