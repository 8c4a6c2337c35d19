use Rattle.std.proofs.Common.{◌≡◌, ◌++◌, map}
use Rattle.std.specs.Arc.{arc_value}
use Rattle.checkpoint_makes.specs.Parcels.{request_by}
use Rattle.checkpoint_actors.specs.Queues.{IsBehind}
use Rattle.checkpoint_actors.proofs.queues.make_queue.Given as goal

abbrev pub invariant-loop-request : goal.invariant-loop-request
invariant-loop-request l = record {
  behind : IsBehind (arc_value l.code) l.answered (map (request_by (arc_value l.code)) l.yielded) l.queue;
  whole : l.fn.requests.items ≡ l.yielded ++ l.request-iterator.rest.items;
}
