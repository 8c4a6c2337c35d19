use Rattle.std.proofs.Common.{◌≡◌, take}
use Rattle.request_queue.specs.Few.{entries}
use Rattle.request_queue.specs.Requests.{lent_shapes, shapes_of}
use Rattle.request_queue.proofs.few.Few.pending.Given as goal

abbrev pub invariant-loop-arrival : goal.invariant-loop-arrival
invariant-loop-arrival l = lent_shapes l.pending.items ≡ shapes_of (entries (take l.arrival-index l.arrival-items))
