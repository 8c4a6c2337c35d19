use Rattle.std.proofs.Common.{◌≡◌, ap, length, refl, rules, sym, ◌∙◌}
use Rattle.law_chases.proofs.FutureLemmas.{no_some}
use Rattle.replay_population.specs.Population.{or_zero}
use Rattle.replay_population.proofs.PopulationLemmas.{none_passed}
use Rattle.replay_population.proofs.population.Population.take_passed.Goals as goal

pub returns-then-is_empty : goal.returns-then-is_empty
returns-then-is_empty c =
    let p = c.args.self.now in
    let empty : length p.passed.entries ≡ 0 = search rules in
    record {
      told = λ n has. sym (ap or_zero (none_passed p n empty));
      none = λ n has. none_passed p n empty;
      forgotten = λ n has. record { same = refl; noted = λ m j is. no_some (sym (none_passed p m empty) ∙ is) };
    }
