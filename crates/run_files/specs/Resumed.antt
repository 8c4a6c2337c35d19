-- Runs that went on from the file of a checkpoint.
use Rattle.std.specs.Prelude.{◌≡◌, ℕ, false, List, Option, Some, map, string_bytes}
use Rattle.std.specs.List.{concat}
use Rattle.std.specs.declared.alloc.Global.{Global}
use Rattle.std.specs.declared.string.String.{String}
use Rattle.asp_model.specs.Marked.{Marked, plain}
use Rattle.asp_model.specs.Names.{Text}
use Rattle.asp_model.specs.Status.{verdict_of}
use Rattle.syntax_grammar.specs.Programs.{IsProgramText}
use Rattle.def_journals.specs.Journals.{RunShape}
use Rattle.law_frozen.specs.Frozen.{FrozenShape, thawed_first}
use Rattle.law_checkpoints.specs.Resumed.{AreOneRun}
use Rattle.law_checkpoints.specs.Saved.{end_of}
use Rattle.law_checkpoint_texts.specs.Files.{text_at}
use Rattle.law_program_files.specs.Programs.{IsFileOf, printed}
use Rattle.law_program_files.specs.Reports.{ReportsReplay}
use Rattle.run_ends.specs.declared.ends.RunEnd.{RunEnd}
use Rattle.run_resumes.specs.Resumed.{IsResumedEnd}
use Rattle.run_saves.specs.declared.saved.Saved.{Saved}
use Rattle.run_saves.specs.declared.saved.Saved.TheVariants.{Ended, Stopped}
use Rattle.run_saves.specs.Saved.{IsStoppedSince, is_budget}
use Rattle.run_files.specs.Files.{HasRoom, IsReadAs}

-- a run that went on from what a checkpoint keeps, and the run that was saved there, are one run of the program
pub record IsOneRun (program : Marked) (f : FrozenShape) (budget : ℕ) (t : RunShape) : Type 0 where
  -- its logs and counts go on from those that were saved
  pub one : AreOneRun (plain program) (thawed_first f) budget t
  -- its report and its status are those of the replay of the whole program under the logs and counts in that report
  pub reports : (depth : Option ℕ) → ReportsReplay (plain program) depth t.configuration
  -- and the checkpoint of where it stands is a file of the program again
  pub again : IsFileOf program (text_at (printed program) (end_of t))

-- so it is where the program was read, and the bytes are a file of it: a run of the program was saved, however often
abbrev pub IsOneRunOf : Marked → Text → FrozenShape → ℕ → RunShape → Type 0
IsOneRunOf program bytes f budget t =
    (source : Text) → IsProgramText source program → IsFileOf program bytes → IsOneRun program f budget t

-- the end of a run that went on from the bytes
pub record IsResumedFile (program : Marked) (bytes : Text) (budget : ℕ) (r : RunEnd) : Type 0 where
  pub frozen : FrozenShape
  pub read : IsReadAs program bytes frozen
  pub within : HasRoom frozen budget
  pub end : IsResumedEnd (plain program) (thawed_first frozen) budget r
  pub one : IsOneRunOf program bytes frozen budget end.run

-- the pieces are the checkpoint of where such a run stopped, because its budget ran out
pub record IsStoppedFile (program : Marked) (bytes : Text) (budget : ℕ) (pieces : List (String Global)) : Type 0 where
  pub frozen : FrozenShape
  pub read : IsReadAs program bytes frozen
  pub within : HasRoom frozen budget
  pub stop : IsStoppedSince program (thawed_first frozen) budget pieces
  pub one : IsOneRunOf program bytes frozen budget stop.run
  -- they are a file of the program again, if the bytes are one
  pub again : (source : Text) → IsProgramText source program → IsFileOf program bytes
      → IsFileOf program (concat (map string_bytes pieces))

-- that checkpoint where the budget ran out, and the end of the run where it did not
abbrev pub IsLeftOfFile : Marked → Text → ℕ → Saved → Type 0
IsLeftOfFile program bytes budget (Stopped pieces) = IsStoppedFile program bytes budget pieces.items
IsLeftOfFile program bytes budget (Ended end) =
    (e : IsResumedFile program bytes budget end) × (is_budget (Some (verdict_of e.end.run.configuration)) ≡ false)
