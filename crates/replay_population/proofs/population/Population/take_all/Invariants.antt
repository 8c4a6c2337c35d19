use Rattle.replay_population.proofs.PopulationLemmas.{AreTaken}
use Rattle.replay_population.proofs.population.Population.take_all.Given as goal

abbrev pub invariant-loop-number : goal.invariant-loop-number
invariant-loop-number l = AreTaken l.initial.self l.self l.named.items l.number
