use Rattle.std.proofs.Common.{◌≡◌, ap, subst}
use Rattle.std.specs.Arc.{arc_value}
use Rattle.asp_model.specs.Term.{Tree}
use Rattle.asp_model.specs.Configuration.{start}
use Rattle.replay_one.specs.Round.{IsRunAt}
use Rattle.replay_one.proofs.PlainLemmas.{begins_run}
use Rattle.replay_population.specs.Population.{term_of}
use Rattle.replay_offers.specs.Programs.{Program, tree_in}
use Rattle.replay_offers.proofs.replays.Replays.start.Goals as goal

pub returns : goal.returns
returns c = record {
  start =
      let own : Tree = term_of (arc_value c.self.inside.code) in
      let same : term_of (arc_value c.in_ok-code.code) ≡ own = ap term_of c.in_ok-code.ensures.cases in
      let begun = begins_run c.args.bounds.now c.in_ok-machine.machine own (term_of (arc_value c.in_ok-code.code)) same c.self.invariant.bare c.in_ok-machine.ensures.population c.in_ok-machine.ensures.numbered c.in_ok-machine.ensures.ready c.in_ok-machine.ensures.passed in
      subst (λ (p : Program). IsRunAt c.args.bounds.now c.in_ok-machine.machine (tree_in p) (start (tree_in p))) c.self.view_is begun;
  order = c.in_ok-machine.ensures.order;
}
