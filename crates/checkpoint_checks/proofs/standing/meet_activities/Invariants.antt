use Rattle.std.proofs.Common.{◌≡◌, drop, map}
use Rattle.std.specs.List.{flat_map}
use Rattle.checkpoint_parts.specs.Shapes.{activity_shape}
use Rattle.law_checkpoints.specs.Standing.{standing_at}
use Rattle.checkpoint_checks.specs.Maps.{has_in, with_futures}
use Rattle.checkpoint_checks.specs.Standing.{are_fresh}
use Rattle.checkpoint_checks.proofs.standing.meet_activities.Given as goal

abbrev pub invariant-loop-activity : goal.invariant-loop-activity
invariant-loop-activity l =
    (with_futures (has_in l.met) (flat_map standing_at (map activity_shape (drop l.activity-index l.activities))) ≡ with_futures (has_in l.initial.met) (flat_map standing_at (map activity_shape l.activities)))
    × (are_fresh (has_in l.met) (flat_map standing_at (map activity_shape (drop l.activity-index l.activities))) ≡ are_fresh (has_in l.initial.met) (flat_map standing_at (map activity_shape l.activities)))
