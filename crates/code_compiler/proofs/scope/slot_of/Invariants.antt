use Rattle.std.proofs.Common.{◌≡◌, drop}
use Rattle.asp_model.specs.Term.{location_of}
use Rattle.code_compiler.specs.Slots.{environment}
use Rattle.code_compiler.proofs.scope.slot_of.Given as goal

abbrev pub invariant-loop-other : goal.invariant-loop-other
invariant-loop-other l = location_of l.name (environment (drop l.other-index l.bound)) ≡ location_of l.name (environment l.bound)
