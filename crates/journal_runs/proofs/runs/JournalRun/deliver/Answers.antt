use Rattle.std.proofs.Common.{◌++◌, ◌∷◌, [], IfOk, sym, subst}
use Rattle.asp_model.specs.declared.journal.Delivery.{Delivery}
use Rattle.asp_model.specs.History.{Delivered}
use Rattle.asp_model.specs.Shapes.{delivery_shape}
use Rattle.def_journals.specs.Journals.{entered}
use Rattle.journal_runs.specs.Runs.{IsRedone}
use Rattle.journal_runs.proofs.runs.JournalRun.deliver.Goals as goal

pub returns-in-Edge : goal.returns-in-Edge
returns-in-Edge c = record {
  delivered = λ program budget entries s r.
      subst (λ (x : Delivery). IfOk c.deliver_edge.result (IsRedone c.deliver_edge.new.self program budget (entries ++ Delivered (delivery_shape x) ∷ []) (entered (Delivered (delivery_shape x)) s))) (sym c.in-Edge.is) (c.deliver_edge.ensures.delivered program budget entries s r);
}

pub returns-in-Need : goal.returns-in-Need
returns-in-Need c = record {
  delivered = λ program budget entries s r.
      subst (λ (x : Delivery). IfOk c.deliver_need.result (IsRedone c.deliver_need.new.self program budget (entries ++ Delivered (delivery_shape x) ∷ []) (entered (Delivered (delivery_shape x)) s))) (sym c.in-Need.is) (c.deliver_need.ensures.delivered program budget entries s r);
}
