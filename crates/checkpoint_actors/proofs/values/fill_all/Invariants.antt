use Rattle.std.proofs.Common.{◌≡◌, ◌++◌, map}
use Rattle.std.specs.Arc.{arc_value}
use Rattle.future_table.specs.Values.{AreOfCode, values_of}
use Rattle.checkpoint_actors.specs.Values.{value_by}
use Rattle.checkpoint_actors.proofs.values.fill_all.Given as goal

abbrev pub invariant-loop-value : goal.invariant-loop-value
invariant-loop-value l = record {
  values : values_of l.table ≡ map (value_by (arc_value l.code)) l.yielded;
  coded : AreOfCode (arc_value l.code) l.table;
  whole : l.fn.values.items ≡ l.yielded ++ l.value-iterator.rest.items;
}
