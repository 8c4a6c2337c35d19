use Rattle.std.proofs.Common.{◌≡◌, ◌++◌, drop}
use Rattle.code_laws.specs.Places.{kept_places}
use Rattle.activity_step.proofs.objects.push_kept.Given as goal

abbrev pub invariant-loop-method : goal.invariant-loop-method
invariant-loop-method l = l.places.items ++ kept_places (drop l.machine.base l.machine.env.items) (drop l.method-index l.methods) ≡ l.fn.places.items ++ kept_places (drop l.machine.base l.machine.env.items) l.methods
