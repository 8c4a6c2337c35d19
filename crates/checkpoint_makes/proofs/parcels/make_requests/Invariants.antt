use Rattle.std.proofs.Common.{◌≡◌, ◌++◌, map}
use Rattle.checkpoint_reading.specs.Cells.{request_shape}
use Rattle.checkpoint_makes.specs.Parcels.{AreMadeRequests}
use Rattle.checkpoint_makes.proofs.parcels.make_requests.Given as goal

abbrev pub invariant-loop-request : goal.invariant-loop-request
invariant-loop-request l = record {
  made : AreMadeRequests l.initial.nodes.items l.nodes.items l.made.items (map request_shape l.yielded);
  whole : l.fn.requests.items ≡ l.yielded ++ l.request-iterator.rest.items;
}
