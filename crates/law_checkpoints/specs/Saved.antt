-- What is frozen of a run of a program is sound.
use Rattle.std.specs.Prelude.{◌≡◌, ℕ, List, Some}
use Rattle.asp_model.specs.Term.{Tree}
use Rattle.asp_model.specs.Marked.{Marked, plain}
use Rattle.asp_model.specs.Configuration.{Configuration}
use Rattle.asp_model.specs.History.{EntryShape, FirstShape, program_history}
use Rattle.def_journals.specs.Journals.{RunShape, all_entered, run_from, run_of}
use Rattle.law_steps.specs.Reached.{IsReached}
use Rattle.law_journals.specs.Numbered.{IsFirst}
use Rattle.law_programs.specs.Programs.{IsSoundProgram}
use Rattle.law_frozen.specs.Same.{SamePending}
use Rattle.law_frozen.specs.Frozen.{FrozenShape, frozen_of, thawed_first}
use Rattle.law_checkpoints.specs.Order.{AreInOrder}
use Rattle.law_checkpoints.specs.Sound.{IsSoundFrozen}

-- the program reaches the configuration, and these are the names of its activities in the order of creation
pub record IsSavedAt (program : Tree) (x : FirstShape) : Type 0 where
  pub reached : IsReached program x.configuration
  pub first : IsFirst x
  pub order : AreInOrder x.names

-- what is frozen there
abbrev pub frozen_at : FirstShape → FrozenShape
frozen_at x = frozen_of x.names x.configuration

-- it is sound, where the program was read and checked
abbrev pub SavedAreSound : Type 0
SavedAreSound = (program : Marked) (x : FirstShape) → IsSoundProgram program → IsSavedAt (plain program) x
    → IsSoundFrozen (frozen_at x)

-- the names and the configuration of a run
abbrev pub end_of : RunShape → FirstShape
end_of s = record { names = s.names; configuration = s.configuration }

-- the run of each lawful journal of a program can be saved so
abbrev pub RunsAreSaved : Type 0
RunsAreSaved = (program : Tree) (budget : ℕ) (entries : List EntryShape) (s : RunShape)
    → run_of (program_history program budget entries) ≡ Some s → IsSavedAt program (end_of s)

-- and where a run went on that was saved so, what is frozen of its end is what is frozen of a configuration that can
-- be saved so, from which it differs in what was served alone
pub record IsSavedAgain (program : Tree) (t : RunShape) : Type 0 where
  pub other : Configuration
  pub saved : IsSavedAt program (record { names = t.names; configuration = other })
  pub same : SamePending other t.configuration
  pub frozen : frozen_of t.names other ≡ frozen_of t.names t.configuration

abbrev pub RunsAreSavedAgain : Type 0
RunsAreSavedAgain = (program : Tree) (x : FirstShape) (budget : ℕ) (entries : List EntryShape) (t : RunShape)
    → IsSavedAt program x → all_entered entries (run_from (thawed_first (frozen_at x)) budget) ≡ Some t
    → IsSavedAgain program t
