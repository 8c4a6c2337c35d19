use Rattle.replay_services.proofs.EntryLemmas.{in_order_already}
use Rattle.replay_services.proofs.listener.in_order.Goals as goal

pub returns-then-is_sorted-clause-sorted : goal.returns-then-is_sorted-clause-sorted
returns-then-is_sorted-clause-sorted c = in_order_already c.args.heard.entries c.as_slice.result c.is_sorted.result c.as_slice.ensures.entries c.is_sorted.ensures c.if-is_sorted.true
