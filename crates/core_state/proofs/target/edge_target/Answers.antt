use Rattle.asp_model.specs.Shapes.{future_shape}
use Rattle.code_table.specs.Shapes.{parcel_shape}
use Rattle.core_state.proofs.TargetLemmas.{edge_goes_to, no_receiver, no_sender, no_value}
use Rattle.core_state.proofs.target.edge_target.Goals as goal

pub returns-in_default : goal.returns-in_default
returns-in_default c = record {
  target = λ h code s core. no_sender h code c.args.state.now s core (future_shape c.args.future.now) c.args.from.now c.args.to.now c.in_default.ensures.found;
}

pub returns-in_default-value : goal.returns-in_default-value
returns-in_default-value c = record {
  target = λ h code s core. no_value h code c.args.state.now s core (future_shape c.args.future.now) c.args.from.now c.args.to.now c.in_default-value.ensures.value;
}

pub returns-in-Some-find_seated : goal.returns-in-Some-find_seated
returns-in-Some-find_seated c = record {
  target = λ h code s core.
      let seated = c.in-Some-find_seated.ensures.seated h code s core in
      edge_goes_to h code c.args.state.now s core (future_shape c.args.future.now) c.args.from.now c.args.to.now c.in-Some._sender c.in-Some.ensures.found (parcel_shape c.in-Some-value._value.now) c.in-Some-value.ensures.value c.in-Some-find_seated.receiver.number seated.0 seated.1;
}

pub returns-in-None : goal.returns-in-None
returns-in-None c = record {
  target = λ h code s core. no_receiver h code c.args.state.now s core (future_shape c.args.future.now) c.args.from.now c.args.to.now (c.in-None.ensures.seated h code s core);
}
