use Rattle.std.proofs.Common.{◌∙◌, List, sym, subst}
use Rattle.asp_model.specs.Configuration as model
use Rattle.asp_model.specs.Configuration.{requests_of}
use Rattle.code_table.specs.declared.code.Node.{Node}
use Rattle.law_chases.proofs.FutureLemmas.{no_some, some_is}
use Rattle.activity_step.specs.Places.{IsPlaceOf}
use Rattle.step_activity.specs.declared.actor.Actor.{Actor}
use Rattle.replay_population.proofs.PopulationLemmas.{found_at, found_stands, there_found}
use Rattle.replay_population.proofs.population.Population.mark.Goals as goal

pub returns-in-Some : goal.returns-in-Some
returns-in-Some c = record {
  place = λ k a n h has is.
      let x : Actor = c.in-Some.actor.now in
      let found = found_at c.args.self.now n c.args.number has ∙ sym c.in-Some.ensures.value in
      let s = found_stands c.args.self.now k n x h found in
      let here = c.mark.ensures.place s.0 (requests_of k n) s.2 in
      let coded = subst (λ (ns : List Node). IsPlaceOf ns s.0 c.mark.result) (h.actors n x found) here in
      subst (λ (b : model.Activity). IsPlaceOf h.code b c.mark.result) (some_is (sym s.1 ∙ is)) coded;
}

pub returns-in-None : goal.returns-in-None
returns-in-None c = record {
  place = λ k a n h has is.
      let s = there_found c.args.self.now k n a h is in
      no_some (c.in-None.ensures.value ∙ sym (found_at c.args.self.now n c.args.number has) ∙ s.1);
}
