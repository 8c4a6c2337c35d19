use Rattle.std.proofs.Common.{◌≡◌, ◌∙◌, IfOk, sym, subst}
use Rattle.asp_model.specs.Configuration as model
use Rattle.asp_model.specs.Configuration.{requests_of}
use Rattle.law_steps.specs.Waking.{labels_wanted}
use Rattle.law_chases.proofs.FutureLemmas.{no_some, some_is}
use Rattle.serve_rules.specs.Wanted.{wanted_labels}
use Rattle.step_activity.specs.declared.actor.Actor.{Actor}
use Rattle.replay_population.proofs.PopulationLemmas.{actor_closed, found_at, found_stands, there_found}
use Rattle.replay_population.proofs.population.Population.wanted.Goals as goal

pub wanted-requires : goal.wanted-requires
wanted-requires c =
    let r = c.requires.closed in
    let n = c.requires.known in
    record { closed = actor_closed c.args.self.now r.0 n.0 c.in-Some.actor.now r.1 (found_at c.args.self.now n.0 c.args.number n.1 ∙ sym c.in-Some.ensures.value) }

pub returns-in-Some : goal.returns-in-Some
returns-in-Some c = record {
  wanted = λ k a n population has is.
      let x : Actor = c.in-Some.actor.now in
      let s = found_stands c.args.self.now k n x population (found_at c.args.self.now n c.args.number has ∙ sym c.in-Some.ensures.value) in
      let same : s.0 ≡ a = some_is (sym s.1 ∙ is) in
      subst (λ (b : model.Activity). IfOk c.wanted.result (λ w. wanted_labels w ≡ labels_wanted b)) same (c.wanted.ensures.labels s.0 (requests_of k n) s.2);
}

pub returns-in-None : goal.returns-in-None
returns-in-None c = record {
  wanted = λ k a n population has is.
      let s = there_found c.args.self.now k n a population is in
      no_some (c.in-None.ensures.value ∙ sym (found_at c.args.self.now n c.args.number has) ∙ s.1);
}
