use Rattle.std.proofs.Common.{[], ◌∙◌, ap}
use Rattle.asp_model.specs.Replay.{replay}
use Rattle.asp_model.specs.Shapes.{counts_shape, lists_shape, outcome_shape, tree_of}
use Rattle.replay_parts.specs.Notes.{replay_notes}
use Rattle.explain.specs.Orders.{entries_of}
use Rattle.explain.proofs.EntryLemmas.{orders_are_logs}
use Rattle.explain.proofs.OrderLemmas.{order_at_end}
use Rattle.explain.proofs.differences.order.ordered_run.Goals as goal

pub returns-clause-outcome : goal.returns-clause-outcome
returns-clause-outcome c = ap outcome_shape c.into_outcome-outcome.ensures.outcome ∙ c.in_ok-end.ensures.outcome

pub returns-clause-order : goal.returns-clause-order
returns-clause-order c =
    let program = tree_of c.args.program.now.program.root in
    let lists = lists_shape c.args.lists.now in
    let counts = counts_shape c.args.counts.now in
    let told = c.in_ok-end.ensures.told [] c.new-order.ensures.none in
    order_at_end c.replay_noting.new.notes (replay_notes program lists counts) (replay program lists counts) told.0 told.2

pub returns-clause-logs : goal.returns-clause-logs
returns-clause-logs c =
    let program = tree_of c.args.program.now.program.root in
    let lists = lists_shape c.args.lists.now in
    let counts = counts_shape c.args.counts.now in
    λ n. ap (entries_of n) (returns-clause-order c) ∙ orders_are_logs program lists counts c.in_ok-end.ensures.fits n
