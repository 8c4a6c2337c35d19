use Rattle.std.proofs.Common.{◌≡◌, ◌++◌}
use Rattle.object_store.proofs.places.all_of.Given as goal

abbrev pub invariant-loop-place : goal.invariant-loop-place
invariant-loop-place l = l.all.items ++ l.place-iterator ≡ l.places.keys
