-- The numbers of activities in a run: who is there has one, and nobody else.
use Rattle.std.specs.Prelude.{◌≡◌, ℕ, List, Some}
use Rattle.asp_model.specs.Names.{Name}
use Rattle.asp_model.specs.Term.{Tree}
use Rattle.asp_model.specs.Step.{name_at}
use Rattle.asp_model.specs.History.{EntryShape, FirstShape, HistoryShape}
use Rattle.def_journals.specs.Journals.{RunShape, all_entered, first_in, run_from, run_of, start_of}
use Rattle.law_steps.specs.Reached.{IsThere}
use Rattle.law_steps.specs.Sound.{IsSound}

pub record AreNumbered (s : RunShape) : Type 0 where
  -- no activity has two numbers
  pub apart : (i k : ℕ) (n : Name) → name_at s.names i ≡ Some n → name_at s.names k ≡ Some n → i ≡ k
  pub there : (k : ℕ) (n : Name) → name_at s.names k ≡ Some n → IsThere s.configuration n
  pub numbered : (n : Name) → IsThere s.configuration n → (k : ℕ) × (name_at s.names k ≡ Some n)

-- where a run may begin: all is sound, and who is there has one number
pub record IsFirst (x : FirstShape) : Type 0 where
  pub sound : IsSound x.configuration
  pub numbered : AreNumbered (run_from x 0)

-- so it is at the start of a program
abbrev pub StartIsFirst : Type 0
StartIsFirst = (program : Tree) → IsFirst (start_of program)

-- numbers stay in the run of each history that begins so, and entries keep them from any run on
abbrev pub HistoriesAreNumbered : Type 0
HistoriesAreNumbered = (h : HistoryShape) (s : RunShape) → IsFirst (first_in h) → run_of h ≡ Some s
    → AreNumbered s

abbrev pub EntriesKeepNumbers : Type 0
EntriesKeepNumbers = (entries : List EntryShape) (s t : RunShape) → all_entered entries s ≡ Some t
    → IsSound s.configuration → AreNumbered s → AreNumbered t
