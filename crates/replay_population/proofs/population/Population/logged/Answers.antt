use Rattle.std.proofs.Common.{◌∙◌, length, sym, ap}
use Rattle.replay_population.proofs.PopulationLemmas.{found_at, nobody_there}
use Rattle.replay_population.proofs.population.Population.logged.Goals as goal

pub returns-in-Some : goal.returns-in-Some
returns-in-Some c = record { logged = λ k n h has there. c.logged.ensures.logged ∙ ap (λ xs. length xs) (h.logs n c.in-Some.actor.now (found_at c.args.self.now n c.args.number has ∙ sym c.in-Some.ensures.value)) }

pub returns-in-None : goal.returns-in-None
returns-in-None c = record { logged = λ k n h has there. nobody_there c.args.self.now k n h (found_at c.args.self.now n c.args.number has ∙ sym c.in-None.ensures.value) there }
