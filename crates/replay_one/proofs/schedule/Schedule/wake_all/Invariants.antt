use Rattle.std.proofs.Common.{◌≡◌, ◌⊎◌, ℕ, true, None, Some, vec_len}
use Rattle.asp_model.specs.Names.{Name}
use Rattle.def_journals.specs.Journals.{number_of}
use Rattle.replay_one.specs.Schedule.{IsMoreReady, has_number, ready_in, seen}
use Rattle.replay_one.proofs.schedule.Schedule.wake_all.Given as goal

abbrev pub invariant-loop-number : goal.invariant-loop-number
invariant-loop-number l =
    IsMoreReady (seen l.roster l.initial.self) None (seen l.roster l.self)
    × ((m : Name) (k : ℕ) → number_of m l.roster ≡ Some k → has_number k l.fn.numbers.items ≡ true → (has_number k l.numbers.items ≡ true) ⊎ (ready_in (seen l.roster l.self) m ≡ true))
    × (l.self.ready.ordered ≡ l.initial.self.ready.ordered)

abbrev pub decreases-loop-number : goal.decreases-loop-number
decreases-loop-number l = vec_len l.numbers
