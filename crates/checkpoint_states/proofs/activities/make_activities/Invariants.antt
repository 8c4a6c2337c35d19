use Rattle.std.proofs.Common.{◌≡◌, ◌++◌, map}
use Rattle.checkpoint_parts.specs.Shapes.{activity_shape}
use Rattle.checkpoint_states.specs.Activities.{AreMadeActivities}
use Rattle.checkpoint_states.proofs.activities.make_activities.Given as goal

abbrev pub invariant-loop-activity : goal.invariant-loop-activity
invariant-loop-activity l = record {
  made : AreMadeActivities l.initial.nodes.items l.nodes.items l.made.items (map activity_shape l.yielded);
  whole : l.fn.activities.items ≡ l.yielded ++ l.activity-iterator.rest.items;
}
