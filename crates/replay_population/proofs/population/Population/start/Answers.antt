use Rattle.std.proofs.Common.{◌∙◌, ◌∷◌, [], refl, subst, sym, ap}
use Rattle.std.specs.Arc.{arc_value}
use Rattle.asp_model.specs.Names.{Name}
use Rattle.asp_model.specs.Configuration.{begun}
use Rattle.asp_model.specs.Store.{Object}
use Rattle.step_activity.specs.Actors.{Stands, code_of, log_in}
use Rattle.replay_parts.specs.Roster.{IsRoster}
use Rattle.replay_population.specs.declared.population.Population.{Population}
use Rattle.replay_population.specs.Population.{IsPopulation, term_of, with_activity}
use Rattle.replay_population.proofs.PopulationLemmas.{nobody_yet, nothing_there, still_none}
use Rattle.replay_population.proofs.population.Population.start.Goals as goal

pub returns-clause-population : goal.returns-clause-population
returns-clause-population c =
    let k = arc_value c.args.code in
    let first = begun (term_of k) (Object [] [] ∷ []) in
    let p : Population = c.of_names-population.result in
    let is = c.in_ok-boxed.ensures.ok in
    let nobody = nobody_yet k p (subst IsRoster (sym c.of_names-population.ensures.roster) c.requires.sound) c.of_names-population.ensures.nobody c.of_names-population.ensures.futures in
    let made = c.in_ok-number.ensures.made nothing_there first nobody.0 refl refl (subst (λ a. Stands a first []) (sym is) c.in_ok-main.ensures.stands) (ap log_in is ∙ c.in_ok-main.ensures.log) (ap code_of is ∙ c.in_ok-main.ensures.code ∙ sym nobody.1) in
    subst (λ (n : Name). IsPopulation c.insert.new.self (with_activity n first nothing_there)) c.in_ok-name.ensures.name made

pub returns-clause-passed : goal.returns-clause-passed
returns-clause-passed c = λ n. still_none c.of_names-population.result c.insert.new.self n c.in_ok-number.ensures.passed (c.of_names-population.ensures.passed n)
