use Rattle.std.proofs.Common.{◌≡◌, ◌≤◌, ◌^◌, ◌++◌, ◌∷◌, [], ℕ, List, Option, length, refl, sym, ap, subst, ◌∙◌, arith}
use Rattle.std.specs.Arc.{arc_value}
use Rattle.asp_model.specs.Configuration.{start}
use Rattle.asp_model.specs.Names.{Name, main_name}
use Rattle.asp_model.specs.Shapes.{tree_of}
use Rattle.asp_model.specs.Term.{Tree}
use Rattle.replay_population.specs.Population.{IsPopulation, term_of}
use Rattle.replay_parts.specs.Roster.{IsEntered}
use Rattle.journal_runs.specs.Runs.{grant_at}
use Rattle.journal_runs.proofs.runs.JournalRun.begin.Goals as goal

pub returns : goal.returns
returns c =
    let t : Tree = tree_of c.args.program.now.program.root in
    let same : term_of (arc_value c.in_ok-code.code) ≡ t = ap term_of c.in_ok-code.ensures.ok ∙ c.in_ok-compile.ensures.program in
    record {
      begun = record {
        bare = c.in_ok-compile.ensures.bare;
        small = omega (arith, c.ranges.budget.fits);
        lawful = refl;
        population = subst (λ (u : Tree). IsPopulation c.in_ok-population.population (start u)) same c.in_ok-population.ensures.population;
        names = (subst (λ (ns : List Name). IsEntered main_name c.in_ok-population.field-0-1 ns c.in_ok-population.population.roster) c.new-roster.ensures.none c.in_ok-population.ensures.number).last refl;
        left = refl;
        grants = λ k. ap (λ (xs : List (Option ℕ)). grant_at xs k) c.new-grants.ensures.items;
        few = (let none : length c.new-grants.result.items ≡ 0 = ap (λ (xs : List (Option ℕ)). length xs) c.new-grants.ensures.items in omega (arith, none));
      };
    }
