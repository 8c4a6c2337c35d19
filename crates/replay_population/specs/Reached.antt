-- A population that stands for a configuration that a program reaches.
use Rattle.std.specs.Prelude.{◌≡◌, []}
use Rattle.asp_model.specs.Term.{Tree, locations}
use Rattle.asp_model.specs.Configuration.{Configuration}
use Rattle.law_steps.specs.Reached.{IsReached}
use Rattle.replay_population.specs.declared.population.Population.{Population}
use Rattle.replay_population.specs.Population.{IsPopulation}

-- the population stands for the configuration, which a program without places reaches
pub record IsReachedPopulation (p : Population) (program : Tree) (c : Configuration) : Type 0 where
  pub bare : locations program ≡ []
  pub reached : IsReached program c
  pub population : IsPopulation p c

abbrev pub IsReachedBySome : Population → Type 0
IsReachedBySome p = (program : Tree) × (c : Configuration) × IsReachedPopulation p program c
