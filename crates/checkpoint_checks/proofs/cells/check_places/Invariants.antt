use Rattle.std.proofs.Common.{◌≡◌, drop}
use Rattle.checkpoint_checks.specs.Cells.{are_below}
use Rattle.checkpoint_checks.proofs.cells.check_places.Given as goal

abbrev pub invariant-loop-place : goal.invariant-loop-place
invariant-loop-place l = are_below l.size (drop l.place-index l.places) ≡ are_below l.size l.places
