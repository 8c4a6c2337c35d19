-- Checkpoint files, and the runs that go on from them.
use Rattle.std.specs.Prelude.{◌≡◌, ◌≢◌, ℕ, List, Some}
use Rattle.asp_model.specs.Names.{Text}
use Rattle.asp_model.specs.Term.{Tree}
use Rattle.asp_model.specs.Marked.{Marked, plain}
use Rattle.asp_model.specs.History.{EntryShape, FirstShape, program_history}
use Rattle.def_journals.specs.Journals.{RunShape, all_entered, run_from, run_of}
use Rattle.law_journals.specs.Numbered.{IsFirst}
use Rattle.law_programs.specs.Programs.{IsSoundProgram}
use Rattle.law_paths.specs.Whole.{IsWhole}
use Rattle.law_frozen.specs.Frozen.{FrozenShape, thawed, thawed_first}
use Rattle.checkpoint_text.specs.Lines.{checkpoint_text}
use Rattle.checkpoint_text.specs.Reading.{Reads, OtherProgram, read_checkpoint}
use Rattle.checkpoint_text.specs.Laws.{IsLine}
use Rattle.law_checkpoints.specs.Sound.{IsSoundFrozen}
use Rattle.law_checkpoints.specs.Saved.{IsSavedAt, end_of, frozen_at}
use Rattle.law_checkpoints.specs.Resumed.{AreOneRun}

-- the checkpoint of where a run stands, under the program's text
abbrev pub text_at : Text → FirstShape → Text
text_at printed x = checkpoint_text printed (frozen_at x)

-- the bytes are the checkpoint of a configuration that the program reaches
abbrev pub IsSavedFile : Text → Tree → Text → Type 0
IsSavedFile printed program bytes = (x : FirstShape) × IsSavedAt program x × (bytes ≡ text_at printed x)

-- where a run ends that began at the start of the program, its checkpoint is such a file
abbrev pub RunsAreFiles : Type 0
RunsAreFiles = (printed : Text) (program : Tree) (budget : ℕ) (entries : List EntryShape) (s : RunShape)
    → run_of (program_history program budget entries) ≡ Some s
    → IsSavedFile printed program (text_at printed (end_of s))

-- a run that goes on from what was read, with this budget, by these entries
abbrev pub GoesOn : FrozenShape → ℕ → List EntryShape → RunShape → Type 0
GoesOn f budget entries t = all_entered entries (run_from (thawed_first f) budget) ≡ Some t

-- what was read of a file
pub record IsResumed (printed : Text) (program : Tree) (f : FrozenShape) : Type 0 where
  -- it is sound: a run can go on from it
  pub sound : IsSoundFrozen f
  pub first : IsFirst (thawed_first f)
  pub whole : IsWhole (thawed f)
  -- each run that does tells, with what was saved, what one run of the program tells
  pub one : (budget : ℕ) (entries : List EntryShape) (t : RunShape) → GoesOn f budget entries t
      → AreOneRun program (thawed_first f) budget t
  -- and where it ends, its checkpoint is such a file again
  pub again : (budget : ℕ) (entries : List EntryShape) (t : RunShape) → GoesOn f budget entries t
      → IsSavedFile printed program (text_at printed (end_of t))

-- where such a file of a program is read, which was read and checked, runs go on from it
abbrev pub FilesAreResumed : Type 0
FilesAreResumed = (printed : Text) (program : Marked) (bytes : Text) (f : FrozenShape)
    → IsLine printed → IsSoundProgram program → IsSavedFile printed (plain program) bytes
    → read_checkpoint printed bytes ≡ Reads f → IsResumed printed (plain program) f

-- and it is never taken for a file of another program
abbrev pub FilesAreOwn : Type 0
FilesAreOwn = (printed : Text) (program : Marked) (bytes : Text)
    → IsLine printed → IsSoundProgram program → IsSavedFile printed (plain program) bytes
    → read_checkpoint printed bytes ≢ OtherProgram
