use Rattle.std.proofs.Common.{◌++◌, ◌∷◌, [], IfOk, sym, subst}
use Rattle.asp_model.specs.declared.journal.Entry.{Entry}
use Rattle.asp_model.specs.declared.journal.Delivery.{Delivery}
use Rattle.asp_model.specs.History.{Delivered}
use Rattle.asp_model.specs.Shapes.{delivery_shape, entry_shape}
use Rattle.def_journals.specs.Journals.{entered}
use Rattle.journal_runs.specs.Runs.{IsRedone}
use Rattle.journal_runs.proofs.runs.JournalRun.redo.Goals as goal

pub returns-in-Lent : goal.returns-in-Lent
returns-in-Lent c = record {
  redone = λ program budget entries s r.
      subst (λ (x : Entry). IfOk c.lend.result (IsRedone c.lend.new.self program budget (entries ++ entry_shape x ∷ []) (entered (entry_shape x) s))) (sym c.in-Lent.is) (c.lend.ensures.lent program budget entries s r);
}

pub returns-in-Committed : goal.returns-in-Committed
returns-in-Committed c = record {
  redone = λ program budget entries s r.
      subst (λ (x : Entry). IfOk c.commit.result (IsRedone c.commit.new.self program budget (entries ++ entry_shape x ∷ []) (entered (entry_shape x) s))) (sym c.in-Committed.is) (c.commit.ensures.committed program budget entries s r);
}

pub returns-in-Delivered : goal.returns-in-Delivered
returns-in-Delivered c = record {
  redone = λ program budget entries s r.
      let own = subst (λ (d : Delivery). IfOk c.deliver.result (IsRedone c.deliver.new.self program budget (entries ++ Delivered (delivery_shape d) ∷ []) (entered (Delivered (delivery_shape d)) s))) c.deref.ensures (c.deliver.ensures.delivered program budget entries s r) in
      subst (λ (x : Entry). IfOk c.deliver.result (IsRedone c.deliver.new.self program budget (entries ++ entry_shape x ∷ []) (entered (entry_shape x) s))) (sym c.in-Delivered.is) own;
}
