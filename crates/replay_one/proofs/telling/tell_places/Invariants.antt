use Rattle.std.proofs.Common.{◌≡◌, ◌++◌, List, take}
use Rattle.asp_model.specs.Configuration.{Configuration}
use Rattle.replay_population.specs.Population.{IsClosedBySome, IsPopulation}
use Rattle.replay_parts.specs.Notes.{NoteShape, places_in}
use Rattle.replay_one.proofs.telling.tell_places.Given as goal

-- it was told where those with lesser numbers stand
abbrev pub invariant-loop-number : goal.invariant-loop-number
invariant-loop-number g l = IsClosedBySome l.population × (l.population.roster ≡ l.initial.population.roster)
    × ((c : Configuration) → IsPopulation l.initial.population c → IsPopulation l.population c)
    × ((xs : List NoteShape) (c : Configuration) → IsPopulation l.initial.population c → g.N.Notes.tells l.initial.notes xs → g.N.Notes.tells l.notes (xs ++ places_in c (take l.number l.initial.population.roster)))
