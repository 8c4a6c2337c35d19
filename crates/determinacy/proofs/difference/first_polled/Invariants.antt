use Rattle.std.proofs.Common.{◌≡◌, drop, map}
use Rattle.asp_model.specs.Shapes.{service_entry_shape}
use Rattle.determinacy.specs.Walks.{first_polled}
use Rattle.determinacy.proofs.difference.first_polled.Given as goal

abbrev pub invariant-loop-place : goal.invariant-loop-place
invariant-loop-place l = first_polled (map service_entry_shape (drop l.place l.entries)) ≡ first_polled (map service_entry_shape l.entries)
