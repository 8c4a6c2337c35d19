use Rattle.std.proofs.Common.{◌∙◌, Some, None, is_some, sym, ap, subst}
use Rattle.asp_model.specs.Chase.{chase}
use Rattle.asp_model.specs.Shapes.{future_shape}
use Rattle.asp_model.specs.Store.{cell}
use Rattle.def_journals.specs.Deliveries.{value_needed}
use Rattle.future_table.specs.Values.{values_of}
use Rattle.step_activity.specs.Actors.{code_of}
use Rattle.step_activity.specs.Stances.{IsFutureOf}
use Rattle.replay_population.proofs.DeliveryLemmas.{not_needed}
use Rattle.replay_population.proofs.deliveries.needs.Goals as goal

pub returns-in-Some : goal.returns-in-Some
returns-in-Some c = record {
  needs = λ a rs st.
      let leads = chase (values_of c.args.futures.now) in
      let f = future_shape c.args.future.now in
      let at = subst (λ t. IsFutureOf (cell t c.args.place) (Some c.in-Some.held)) (c.store.ensures.store a rs st) (c.in-Some.ensures.held (code_of c.args.actor.now)) in
      c.leads_to.ensures.leads ∙ ap (λ z. is_some (value_needed leads f z)) (sym at);
}

pub returns-in-None : goal.returns-in-None
returns-in-None c = record {
  needs = λ a rs st.
      let leads = chase (values_of c.args.futures.now) in
      let f = future_shape c.args.future.now in
      let at = subst (λ t. IsFutureOf (cell t c.args.place) None) (c.store.ensures.store a rs st) (c.in-None.ensures.held (code_of c.args.actor.now)) in
      sym (ap is_some (not_needed leads f (cell a.store c.args.place) at));
}
