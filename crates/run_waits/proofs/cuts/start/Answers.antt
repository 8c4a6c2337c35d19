use Rattle.std.proofs.Common.{◌≡◌, ◌∙◌, ap, subst}
use Rattle.std.specs.Arc.{arc_value}
use Rattle.asp_model.specs.Configuration.{start}
use Rattle.asp_model.specs.Shapes.{tree_of}
use Rattle.replay_population.specs.Population.{IsPopulation, term_of}
use Rattle.replay_parts.proofs.RosterLemmas.{leads_both}
use Rattle.run_waits.specs.Entries.{names_in}
use Rattle.run_waits.proofs.cuts.start.Goals as goal

pub returns : goal.returns
returns c = record {
  start = λ lists n number leads has.
      let p = c.in_ok-population.population in
      let same : term_of (arc_value c.in_ok-code.code) ≡ tree_of c.args.program.now.program.root = ap term_of c.in_ok-code.ensures.ok ∙ c.in_ok-compile.ensures.program in
      record {
        bare = c.in_ok-compile.ensures.bare;
        population = subst (λ t. IsPopulation p (start t)) same c.in_ok-population.ensures.population;
        numbered = leads_both (names_in lists) c.args.roster p.roster leads c.in_ok-population.ensures.number.leads;
        named = c.in_ok-population.ensures.number.before n number has;
      };
}
