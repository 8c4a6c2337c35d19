use Rattle.std.proofs.Common.{◌≡◌, ◌<◌, ℕ, List, Some, false}
use Rattle.asp_model.specs.History.{EntryShape}
use Rattle.asp_model.specs.Names.{Name}
use Rattle.asp_model.specs.Status.{is_running, status_of}
use Rattle.asp_model.specs.Term.{Tree}
use Rattle.def_journals.specs.Journals.{RunShape, number_of}
use Rattle.journal_runs.specs.Runs.{IsRunOf}
use Rattle.journal_runs.proofs.runs.JournalRun.any_runs.Given as goal

-- those with lesser numbers cannot step
abbrev pub invariant-loop-number : goal.invariant-loop-number
invariant-loop-number l = (program : Tree) (budget : ℕ) (entries : List EntryShape) (s : RunShape) → IsRunOf l.initial.self program budget entries s
    → IsRunOf l.self program budget entries s × (l.self.population.roster ≡ l.initial.self.population.roster)
    × ((n : Name) (k : ℕ) → number_of n l.initial.self.population.roster ≡ Some k → k < l.number → is_running (status_of s.configuration n) ≡ false)
