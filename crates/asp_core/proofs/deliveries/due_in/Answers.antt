use Rattle.std.proofs.Common.{subst}
use Rattle.future_update.specs.Names.{edge_named}
use Rattle.core_edges.specs.Due.{IsDue}
use Rattle.asp_core.proofs.deliveries.due_in.Goals as goal

pub returns-in_ok-delivery-in-Some : goal.returns-in_ok-delivery-in-Some
returns-in_ok-delivery-in-Some g c =
    let is = subst (IsDue c.args.edges.now.holders) c.in-Some.is c.next_due.ensures.due in
    record { due = (is.place, edge_named c.in-Some.edge, is.first, is.edge, c.in_ok-delivery-in-Some.ensures.delivery) }

pub returns-in-None : goal.returns-in-None
returns-in-None g c = record { due = subst (IsDue c.args.edges.now.holders) c.in-None.is c.next_due.ensures.due }
