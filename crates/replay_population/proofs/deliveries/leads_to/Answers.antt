use Rattle.std.proofs.Common.{◌∙◌, inl, inr}
use Rattle.asp_model.specs.Chase.{chase}
use Rattle.asp_model.specs.FutureOrder.{eq_shape}
use Rattle.asp_model.specs.Shapes.{future_shape}
use Rattle.future_table.specs.Values.{values_of}
use Rattle.replay_population.proofs.DeliveryLemmas.{leads_nowhere, leads_there}
use Rattle.replay_population.proofs.deliveries.leads_to.Goals as goal

pub returns-in-Value : goal.returns-in-Value
returns-in-Value c = record {
  leads = c.eq.ensures ∙ eq_shape c.args.future.now c.in-Value.name.now ∙ leads_there (future_shape c.args.future.now) (future_shape c.in-Value.name.now) (chase (values_of c.args.futures.now) (future_shape c.args.held.now)) c.in-Value.ensures.chase;
}

pub returns-in-Unfilled : goal.returns-in-Unfilled
returns-in-Unfilled c = record {
  leads = leads_nowhere (future_shape c.args.future.now) (future_shape c.in-Unfilled.field-0.now) (chase (values_of c.args.futures.now) (future_shape c.args.held.now)) (inl c.in-Unfilled.ensures.chase);
}

pub returns-in-Cycle : goal.returns-in-Cycle
returns-in-Cycle c = record {
  leads = leads_nowhere (future_shape c.args.future.now) (future_shape c.in-Cycle.field-0.now) (chase (values_of c.args.futures.now) (future_shape c.args.held.now)) (inr c.in-Cycle.ensures.chase);
}
