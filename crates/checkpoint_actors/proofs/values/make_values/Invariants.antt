use Rattle.std.proofs.Common.{◌≡◌, ◌++◌, map}
use Rattle.checkpoint_reading.specs.Cells.{value_shape}
use Rattle.checkpoint_actors.specs.Values.{AreMadeValues}
use Rattle.checkpoint_actors.proofs.values.make_values.Given as goal

abbrev pub invariant-loop-value : goal.invariant-loop-value
invariant-loop-value l = record {
  made : AreMadeValues l.initial.nodes.items l.nodes.items l.made.items (map value_shape l.yielded);
  whole : l.fn.values.items ≡ l.yielded ++ l.value-iterator.rest.items;
}
