use Rattle.std.proofs.Common.{◌≡◌, ◌∙◌, IfOk, sym, subst}
use Rattle.asp_model.specs.Chase.{Values, chase}
use Rattle.asp_model.specs.Configuration as model
use Rattle.asp_model.specs.Configuration.{requests_of}
use Rattle.law_chases.proofs.FutureLemmas.{no_some, some_is}
use Rattle.step_activity.specs.declared.actor.Actor.{Actor}
use Rattle.step_activity.specs.Stances.{stance_of, stance_shape}
use Rattle.replay_population.specs.declared.population.Population.{Population}
use Rattle.replay_population.proofs.PopulationLemmas.{actor_closed, found_at, found_stands, there_found, values_closed}
use Rattle.replay_population.proofs.population.Population.stance.Goals as goal

pub stance-requires-clause-closed : goal.stance-requires-clause-closed
stance-requires-clause-closed c =
    let r = c.requires.closed in
    let n = c.requires.known in
    let p : Population = c.args.self.now in
    actor_closed p r.0 n.0 c.in-Some.actor.now r.1 (found_at p n.0 c.args.number n.1 ∙ sym c.in-Some.ensures.value)

pub stance-requires-clause-values : goal.stance-requires-clause-values
stance-requires-clause-values c = let r = c.requires.closed in values_closed c.args.self.now r.0 r.1

pub returns-in-Some : goal.returns-in-Some
returns-in-Some c = record {
  stance = λ k a n h has is.
      let p : Population = c.args.self.now in
      let x : Actor = c.in-Some.actor.now in
      let s = found_stands p k n x h (found_at p n c.args.number has ∙ sym c.in-Some.ensures.value) in
      let same : s.0 ≡ a = some_is (sym s.1 ∙ is) in
      subst (λ (b : model.Activity). IfOk c.stance.result (λ y. stance_shape y ≡ stance_of (chase k.futures) (requests_of k n) n b)) same
      (subst (λ (vs : Values). IfOk c.stance.result (λ y. stance_shape y ≡ stance_of (chase vs) (requests_of k n) n s.0)) h.futures (c.stance.ensures.stance s.0 (requests_of k n) n s.2));
}

pub returns-in-None : goal.returns-in-None
returns-in-None c = record {
  stance = λ k a n h has is.
      let s = there_found c.args.self.now k n a h is in
      no_some (c.in-None.ensures.value ∙ sym (found_at c.args.self.now n c.args.number has) ∙ s.1);
}
