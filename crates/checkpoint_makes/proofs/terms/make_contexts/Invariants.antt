use Rattle.std.proofs.Common.{◌≡◌, ◌++◌, map}
use Rattle.asp_model.specs.Shapes.{tree_of}
use Rattle.checkpoint_makes.specs.Terms.{AreHeldFrom}
use Rattle.checkpoint_makes.proofs.terms.make_contexts.Given as goal

abbrev pub invariant-loop-term : goal.invariant-loop-term
invariant-loop-term l = record {
  held : AreHeldFrom l.initial.nodes.items l.nodes.items l.helds.items (map tree_of l.yielded);
  whole : l.fn.terms.items ≡ l.yielded ++ l.term-iterator.rest.items;
}
