use Rattle.std.proofs.Common.{◌≡◌, ◌++◌, List, length, map, take}
use Rattle.std.specs.Arc.{arc_value}
use Rattle.law_frozen.specs.Frozen.{FrozenActivity, FrozenShape}
use Rattle.checkpoint_states.specs.Activities.{StandAs}
use Rattle.checkpoint_actors.specs.Actors.{AreActorsOf}
use Rattle.checkpoint_actors.specs.Counts.{answered_count}
use Rattle.checkpoint_actors.proofs.actors.make_actors.Given as goal

abbrev pub invariant-loop-activity : goal.invariant-loop-activity
invariant-loop-activity l = record {
  actors : (f : FrozenShape) (xs : List FrozenActivity) → StandAs (arc_value l.code) l.fn.activities.items xs → l.answered ≡ map (answered_count f) xs → AreActorsOf (arc_value l.code) f (take (length l.yielded) xs) l.actors.items;
  number : length l.actors.items ≡ length l.yielded;
  whole : l.fn.activities.items ≡ l.yielded ++ l.activity-iterator.rest.items;
}
