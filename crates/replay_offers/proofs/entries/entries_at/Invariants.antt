use Rattle.asp_model.specs.Term.{Tree}
use Rattle.asp_model.specs.Configuration.{Configuration}
use Rattle.replay_population.specs.Reached.{IsReachedPopulation}
use Rattle.replay_offers.specs.Entries.{HasNextOf}
use Rattle.replay_offers.proofs.entries.entries_at.Given as goal

abbrev pub invariant-loop-number : goal.invariant-loop-number
invariant-loop-number l = (program : Tree) (c : Configuration) → IsReachedPopulation l.population program c → HasNextOf l.population.roster c l.to l.number l.entries.items
