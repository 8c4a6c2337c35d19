use Rattle.std.proofs.Common.{◌≡◌, ◌++◌, drop}
use Rattle.code_laws.specs.Places.{kept_places}
use Rattle.frozen_code.proofs.objects.push_kept.Given as goal

abbrev pub invariant-loop-method : goal.invariant-loop-method
invariant-loop-method l = l.all.items ++ kept_places l.places (drop l.method-index l.methods) ≡ l.fn.all.items ++ kept_places l.places l.methods
