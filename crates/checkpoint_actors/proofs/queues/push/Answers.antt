use Rattle.code_table.specs.Cells.{held_future}
use Rattle.checkpoint_actors.proofs.QueueLemmas.{pushed_by}
use Rattle.checkpoint_actors.proofs.queues.push.Goals as goal

pub returns : goal.returns
returns c = record {
  pushed = pushed_by _ _ _ c.args.request _ c.in_ok-push.ensures.pending c.in_ok-push.ensures.arrived
      (λ i. record { label = c.args.request.label.text; sender = c.args.request.sender; future = held_future c.args.request.future; arguments = c.in_ok-arguments.ensures.parcel i })
      c.in_ok-arguments.ensures.code;
}
