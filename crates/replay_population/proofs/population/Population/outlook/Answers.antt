use Rattle.std.proofs.Common.{◌∙◌, sym}
use Rattle.step_activity.specs.declared.actor.Actor.{Actor}
use Rattle.replay_population.specs.declared.population.Population.{Population}
use Rattle.replay_population.proofs.OutlookLemmas.{absent_done, looked}
use Rattle.replay_population.proofs.PopulationLemmas.{actor_closed, found_at, values_closed}
use Rattle.replay_population.proofs.population.Population.outlook.Goals as goal

pub outlook-requires-clause-closed : goal.outlook-requires-clause-closed
outlook-requires-clause-closed c =
    let r = c.requires.closed in
    let n = c.requires.known in
    let p : Population = c.args.self.now in
    actor_closed p r.0 n.0 c.in-Some.actor.now r.1 (found_at p n.0 c.args.number n.1 ∙ sym c.in-Some.ensures.value)

pub outlook-requires-clause-values : goal.outlook-requires-clause-values
outlook-requires-clause-values c = let r = c.requires.closed in values_closed c.args.self.now r.0 r.1

pub returns-in-Some : goal.returns-in-Some
returns-in-Some c = record {
  outlook = λ k n h has.
      let p : Population = c.args.self.now in
      let x : Actor = c.in-Some.actor.now in
      looked p k n x c.outlook.result h (found_at p n c.args.number has ∙ sym c.in-Some.ensures.value) c.outlook.ensures.outlook;
}

pub returns-in-None : goal.returns-in-None
returns-in-None c = record {
  outlook = λ k n h has.
      let p : Population = c.args.self.now in
      absent_done p k n h (found_at p n c.args.number has ∙ sym c.in-None.ensures.value);
}
