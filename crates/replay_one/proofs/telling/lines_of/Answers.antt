use Rattle.std.proofs.Common.{◌∙◌, sym, ap}
use Rattle.asp_model.specs.Configuration as model
use Rattle.asp_model.specs.Configuration.{requests_of}
use Rattle.law_chases.proofs.FutureLemmas.{no_some, some_is}
use Rattle.step_activity.specs.declared.actor.Actor.{Actor}
use Rattle.replay_population.proofs.PopulationLemmas.{found_at, found_stands, there_found}
use Rattle.replay_one.proofs.telling.lines_of.Goals as goal

pub returns-in-Some : goal.returns-in-Some
returns-in-Some c = record {
  lines = λ k a n h has is.
      let x : Actor = c.in-Some.actor.now in
      let s = found_stands c.args.population.now k n x h (found_at c.args.population.now n c.args.number has ∙ sym c.in-Some.ensures.value) in
      c.lines.ensures.lines s.0 (requests_of k n) s.2 ∙ ap (λ (b : model.Activity). b.lines) (some_is (sym s.1 ∙ is));
}

pub returns-in-None : goal.returns-in-None
returns-in-None c = record {
  lines = λ k a n h has is.
      let s = there_found c.args.population.now k n a h is in
      no_some (c.in-None.ensures.value ∙ sym (found_at c.args.population.now n c.args.number has) ∙ s.1);
}
