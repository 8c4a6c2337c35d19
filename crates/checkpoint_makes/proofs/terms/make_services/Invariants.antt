use Rattle.std.proofs.Common.{◌≡◌, ◌++◌, map}
use Rattle.checkpoint_parts.specs.Shapes.{service_shape}
use Rattle.checkpoint_makes.specs.Terms.{AreMadeServices}
use Rattle.checkpoint_makes.proofs.terms.make_services.Given as goal

abbrev pub invariant-loop-service : goal.invariant-loop-service
invariant-loop-service l = record {
  made : AreMadeServices l.initial.nodes.items l.nodes.items l.made.items (map service_shape l.yielded);
  whole : l.fn.services.items ≡ l.yielded ++ l.service-iterator.rest.items;
}
