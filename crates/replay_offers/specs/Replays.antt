-- Runs without logs, and where runs rest.
use Rattle.std.specs.Prelude.{◌≡◌, List, None}
use Rattle.asp_model.specs.Names.{Name}
use Rattle.asp_model.specs.Term.{Tree}
use Rattle.asp_model.specs.Configuration.{Configuration, start}
use Rattle.asp_model.specs.Outcome.{OutcomeShape, outcome_of}
use Rattle.asp_model.specs.Replay.{lists_of}
use Rattle.asp_model.specs.Shapes.{lists_shape}
use Rattle.law_steps.specs.Reached.{RunsTo}
use Rattle.replay_population.specs.declared.population.Population.{Population}
use Rattle.replay_population.specs.Reached.{IsReachedPopulation}
use Rattle.replay_offers.specs.declared.replays.Held.{Held}
use Rattle.replay_offers.specs.Entries.{HasNext}

-- the outcome is that of a run of the program, in some order
pub record IsFreeRun (program : Tree) (o : OutcomeShape) : Type 0 where
  pub names : List Name
  pub end : Configuration
  pub run : RunsTo None (start program) names end
  pub outcome : o ≡ outcome_of end

-- the population is reached by a run of the program, in some order
pub record IsFreePopulation (program : Tree) (p : Population) : Type 0 where
  pub names : List Name
  pub end : Configuration
  pub run : RunsTo None (start program) names end
  pub reached : IsReachedPopulation p program end

-- the logs are those of the configuration, and whatever could be entered next in one of them is there
pub record IsHeld (c : Configuration) (q : Name) (h : Held) : Type 0 where
  pub lists : lists_shape h.lists ≡ lists_of c
  pub next : HasNext c q h.entries.items
