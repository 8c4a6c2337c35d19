use Rattle.std.proofs.Common.{◌≡◌, ◌<◌, ℕ, true, None, Some}
use Rattle.asp_model.specs.Names.{Name}
use Rattle.def_journals.specs.Journals.{number_of}
use Rattle.replay_population.specs.declared.population.Population.{Population}
use Rattle.replay_population.specs.Population.{passed_in}
use Rattle.replay_one.specs.Schedule.{ready_in, seen}
use Rattle.replay_one.proofs.round.Machine.rouse.Given as goal

-- those with lesser numbers are ready
abbrev pub invariant-loop-number : goal.invariant-loop-number
invariant-loop-number l =
    let p : Population = l.initial.self.population in
    (l.self.population ≡ record p { passed = l.self.population.passed })
    × ((n : Name) → passed_in l.self.population n ≡ None)
    × ((n : Name) (k : ℕ) → number_of n p.roster ≡ Some k → k < l.number → ready_in (seen p.roster l.self.schedule) n ≡ true)
    × (l.self.schedule.ready.ordered ≡ l.initial.self.schedule.ready.ordered)
