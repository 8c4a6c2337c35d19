use Rattle.std.proofs.Common.{◌≡◌, ◌≤◌, drop, length, map}
use Rattle.asp_model.specs.Shapes.{service_entry_shape}
use Rattle.determinacy.specs.Walks.{first_told}
use Rattle.determinacy.proofs.difference.first_told.Given as goal

abbrev pub invariant-loop-place : goal.invariant-loop-place
invariant-loop-place l = (l.from ≤ length l.others)
    × (first_told (map service_entry_shape (drop l.place l.entries)) (map service_entry_shape (drop l.from l.others))
    ≡ first_told (map service_entry_shape l.entries) (map service_entry_shape l.others))
