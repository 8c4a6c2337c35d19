use Rattle.std.proofs.Common.{◌≡◌, ◌-◌, ◌+◌, ℕ, length}
use Rattle.replay_population.specs.declared.population.Population.{Population}
use Rattle.replay_population.specs.Population.{seat_at}
use Rattle.replay_population.proofs.population.Population.reach.Given as goal

abbrev pub invariant-loop-self : goal.invariant-loop-self
invariant-loop-self l =
    let p : Population = l.initial.self in
    let q : Population = l.self in
    (q ≡ record p { activities = q.activities })
    × ((j : ℕ) → seat_at q.activities.items j ≡ seat_at p.activities.items j)

abbrev pub decreases-loop-self : goal.decreases-loop-self
decreases-loop-self l = l.place + 1 - length l.self.activities.items
