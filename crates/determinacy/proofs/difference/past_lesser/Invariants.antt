use Rattle.std.proofs.Common.{◌≡◌, drop, map}
use Rattle.asp_model.specs.Shapes.{service_entry_shape}
use Rattle.determinacy.specs.Walks.{past}
use Rattle.determinacy.proofs.difference.past_lesser.Given as goal

abbrev pub invariant-loop-place : goal.invariant-loop-place
invariant-loop-place l = past l.name (map service_entry_shape (drop l.place l.entries)) ≡ past l.name (map service_entry_shape (drop l.from l.entries))
