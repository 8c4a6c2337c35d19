use Rattle.std.proofs.Common.{◌≡◌, ◌∙◌, false, refl, sym, subst}
use Rattle.asp_model.specs.Contraction.{is_future}
use Rattle.asp_model.specs.Shapes.{future_shape}
use Rattle.asp_model.specs.Store as store
use Rattle.asp_model.specs.Store.{cell}
use Rattle.step_activity.specs.Actors.{code_of}
use Rattle.core_state.proofs.TargetLemmas.{leads_elsewhere, need_goes_to, nobody_needs, none_held, none_past}
use Rattle.core_state.proofs.target.need_target.Goals as goal

pub returns-in_default : goal.returns-in_default
returns-in_default c = record {
  target = λ h code s core. nobody_needs h code c.args.state.now s core (future_shape c.args.future.now) c.args.to.now c.args.loc (c.in_default.ensures.seated h code s core);
}

pub returns-in_default-place_in : goal.returns-in_default-place_in
returns-in_default-place_in c = record {
  target = λ h code s core.
      let z = c.in-Some.ensures.seated h code s core in
      let x = c.args.state.now in
      let f = future_shape c.args.future.now in
      let n = c.args.to.now in
      let k = code_of c.in-Some.receiver.actor.now in
      none_held h code x s core f n c.args.loc c.in-Some.receiver.number z.0 z.1
      (none_past h code x s core f n c.args.loc c.in-Some.receiver.number z.0 z.1 k c.store-store.result.now.cells (c.store-store.ensures.store z.0 _ z.2) (c.in_default-place_in.ensures.none refl));
}

pub returns-in_default-future_at : goal.returns-in_default-future_at
returns-in_default-future_at c = record {
  target = λ h code s core.
      let z = c.in-Some.ensures.seated h code s core in
      let k = code_of c.in-Some.receiver.actor.now in
      let none : is_future (cell z.0.store c.in-Some-place_in.loc) ≡ false = subst (λ t. is_future (cell t c.in-Some-place_in.loc) ≡ false) (c.store-store.ensures.store z.0 _ z.2) (c.in_default-future_at.ensures.held k) in
      none_held h code c.args.state.now s core (future_shape c.args.future.now) c.args.to.now c.args.loc c.in-Some.receiver.number z.0 z.1
      (subst (λ p. is_future (cell z.0.store p) ≡ false) c.in-Some-place_in.ensures.place none);
}

pub returns-then-not-leads_to : goal.returns-then-not-leads_to
returns-then-not-leads_to c = record {
  target = λ h code s core.
      let z = c.in-Some.ensures.seated h code s core in
      let k = code_of c.in-Some.receiver.actor.now in
      let g = future_shape c.in-Some-future_at.held.now in
      let at : cell z.0.store c.in-Some-place_in.loc ≡ store.Future g = subst (λ t. cell t c.in-Some-place_in.loc ≡ store.Future g) (c.store-store.ensures.store z.0 _ z.2) (c.in-Some-future_at.ensures.held k) in
      leads_elsewhere h code c.args.state.now s core (future_shape c.args.future.now) c.args.to.now c.args.loc c.in-Some.receiver.number z.0 z.1 g
      (subst (λ p. cell z.0.store p ≡ store.Future g) c.in-Some-place_in.ensures.place at)
      (sym c.leads_to.ensures.leads ∙ c.if-not-leads_to.true);
}

pub returns : goal.returns
returns c = record {
  target = λ h code s core.
      let z = c.in-Some.ensures.seated h code s core in
      let k = code_of c.in-Some.receiver.actor.now in
      let g = future_shape c.in-Some-future_at.held.now in
      let at : cell z.0.store c.in-Some-place_in.loc ≡ store.Future g = subst (λ t. cell t c.in-Some-place_in.loc ≡ store.Future g) (c.store-store.ensures.store z.0 _ z.2) (c.in-Some-future_at.ensures.held k) in
      let goes = need_goes_to h code c.args.state.now s core (future_shape c.args.future.now) c.args.to.now c.args.loc c.in-Some.receiver.number z.0 z.1 g
      (subst (λ p. cell z.0.store p ≡ store.Future g) c.in-Some-place_in.ensures.place at)
      (sym c.leads_to.ensures.leads ∙ c.if-not-leads_to.false) in
      (c.in-Some-place_in.ensures.place, goes.0, goes.1);
}
