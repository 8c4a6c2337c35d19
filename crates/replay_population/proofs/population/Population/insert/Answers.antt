use Rattle.std.proofs.Common.{◌∙◌, sym, ap, refl, subst, Some}
use Rattle.step_activity.specs.Actors.{Stands}
use Rattle.replay_parts.specs.Roster.{IsRoster}
use Rattle.replay_population.specs.declared.population.Population.{Population}
use Rattle.replay_population.proofs.PopulationLemmas.{changed, passed_new, put_new}
use Rattle.replay_population.proofs.population.Population.insert.Goals as goal

pub returns-clause-made : goal.returns-clause-made
returns-clause-made c = λ k a h none quiet stands empty code.
    let p : Population = c.args.self.now in
    let mid : Population = record p { roster = c.enter.new.self; passed = c.remove.new.self } in
    let q : Population = c.put.new.self in
    let set = c.in_ok-put.ensures.set in
    let roster = ap (λ (r : Population). r.roster) set.same in
    let futures = ap (λ (r : Population). r.futures) set.same in
    (changed p q k c.args.name c.args.actor.value a h (put_new p mid q c.args.name c.in_ok-number.number c.args.actor.value refl c.in_ok-number.ensures.entered set) (subst IsRoster (sym roster) c.enter.ensures.sound) futures (subst (Stands c.args.actor.value a) (sym none) stands) (empty ∙ sym quiet) code).0

pub returns-clause-passed : goal.returns-clause-passed
returns-clause-passed c =
    let p : Population = c.args.self.now in
    let mid : Population = record p { roster = c.enter.new.self; passed = c.remove.new.self } in
    passed_new p mid c.put.new.self c.args.name c.in_ok-number.number (Some c.args.actor.value) c.in_ok-number.ensures.entered c.remove.ensures.updates c.in_ok-put.ensures.set
