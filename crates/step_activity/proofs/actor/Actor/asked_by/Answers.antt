use Rattle.std.proofs.Common.{◌∙◌, sym, ap}
use Rattle.step_rows.specs.declared.redex.Redex.{Redex}
use Rattle.asp_model.specs.Store.{cell}
use Rattle.step_activity.specs.Asking.{asked_for}
use Rattle.step_activity.proofs.actor.Actor.asked_by.Goals as goal

pub returns-in-Serve : goal.returns-in-Serve
returns-in-Serve c = record {
  labels = λ a rs h. c.served_by.ensures.labels a rs h ∙ ap (λ (x : Redex). asked_for x (cell a.store a.active)) (sym c.in-Serve.is);
}
