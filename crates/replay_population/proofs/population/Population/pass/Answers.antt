use Rattle.replay_population.proofs.PopulationLemmas.{passing}
use Rattle.replay_population.proofs.population.Population.pass.Goals as goal

pub returns-in_ok-insert : goal.returns-in_ok-insert
returns-in_ok-insert c = record { passing = λ n has. passing c.args.self.now c.insert.new.self n c.args.number c.args.passed has c.in_ok-insert.ensures.updates }
