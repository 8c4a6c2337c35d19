use Rattle.std.proofs.Common.{◌≡◌, drop, map}
use Rattle.checkpoint_reading.specs.Cells.{place_field}
use Rattle.checkpoint_checks.specs.Cells.{are_below}
use Rattle.checkpoint_checks.proofs.cells.check_fields.Given as goal

abbrev pub invariant-loop-place : goal.invariant-loop-place
invariant-loop-place l = are_below l.size (map (λ f. f.place) (map place_field (drop l.place-index l.fields))) ≡ are_below l.size (map (λ f. f.place) (map place_field l.fields))
