use Rattle.std.proofs.Common.{List, IfOk, map, true, subst, sym}
use Rattle.asp_model.specs.Shapes.{tree_of}
use Rattle.asp_model.specs.Term.{Tree}
use Rattle.end_search.proofs.GrownLemmas.{not_both}
use Rattle.law_families.specs.Families.{RunLogs}
use Rattle.outcome_search.specs.Ends.{AreReplayableEnds, run_logs}
use Rattle.outcome_search.specs.Found.{IfComplete}
use Rattle.outcomes_top.specs.Families.{AreAll}
use Rattle.outcomes_top.specs.Surveys.{IsFamilyOf}
use Rattle.outcomes_top.proofs.SoughtLemmas.{orders_anyway, some_complete, some_found}
use Rattle.outcomes_top.proofs.family.sought.Goals as goal

pub returns-then-task : goal.returns-then-task
returns-then-task g c = record {
  family = subst (λ t. IfOk c.in_orders.result (IsFamilyOf t)) c.requires.runs c.in_orders.ensures.family;
  orders = orders_anyway c.in_orders.result c.args.task.now.whole_orders c.in_orders.ensures.orders;
}

pub in_classes-requires : goal.in_classes-requires
in_classes-requires g c =
    let t : Tree = tree_of c.args.program.now.program.root in
    let ends : List RunLogs = map run_logs c.in-Some.found.ends.items in
    record {
      found = subst (λ u. AreReplayableEnds u ends) (sym c.requires.runs) (some_found t _ c.in_ok-told.told c.in-Some.found c.in-Some.is c.in_ok-told.ensures.found);
      complete = subst (λ u. IfComplete (AreAll true u ends) c.in-Some.found.stop) (sym c.requires.runs) (some_complete t c.in_ok-told.told c.in-Some.found c.in-Some.is c.in_ok-told.ensures.complete);
    }

pub returns-in-Some : goal.returns-in-Some
returns-in-Some g c = record {
  family = subst (λ t. IsFamilyOf t c.in_classes.result) c.requires.runs c.in_classes.ensures.family;
  orders = λ w. absurd (not_both c.args.task.now.whole_orders w c.if-task.false);
}

pub returns-in-None : goal.returns-in-None
returns-in-None g c = record {
  family = subst (λ t. IfOk c.in_orders-in-None.result (IsFamilyOf t)) c.requires.runs c.in_orders-in-None.ensures.family;
  orders = orders_anyway c.in_orders-in-None.result c.args.task.now.whole_orders c.in_orders-in-None.ensures.orders;
}
