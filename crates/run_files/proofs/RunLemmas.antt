-- Runs that went on from what was read.
use Rattle.std.specs.Prelude.{ℕ, List}
use Rattle.std.proofs.Common.{arith, subst, sym}
use Rattle.asp_model.specs.History.{EntryShape}
use Rattle.asp_model.specs.Marked.{Marked, plain}
use Rattle.asp_model.specs.Names.{Text}
use Rattle.asp_check.specs.Faults.{IsChecked}
use Rattle.def_journals.specs.Journals.{RunShape}
use Rattle.law_frozen.specs.Frozen.{FrozenShape, thawed_first}
use Rattle.law_checkpoints.proofs.FirstLemmas.{frozen_are_first, frozen_are_whole}
use Rattle.law_checkpoint_texts.specs.Files.{GoesOn}
use Rattle.law_program_files.specs.Programs.{IsFileOf}
use Rattle.law_program_files.proofs.ProgramLaws.{programs_are_resumed}
use Rattle.law_program_files.proofs.ReportLaws.{files_report_replays}
use Rattle.asp_core.specs.Thawing.{BeginsIn}
use Rattle.asp_core.specs.declared.first.First.{First}
use Rattle.asp_core.specs.declared.freezing.Frozen.{Frozen}
use Rattle.run_ends.specs.declared.ends.RunEnd.{RunEnd}
use Rattle.run_resumes.specs.Resumed.{IsResumedEnd}
use Rattle.run_saves.specs.declared.saved.Saved.{Saved}
use Rattle.run_saves.specs.declared.saved.Saved.TheVariants.{Ended, Stopped}
use Rattle.run_saves.specs.Saved.{IsLeftSince}
use Rattle.run_files.specs.Files.{HasRoom, IsReadAs}
use Rattle.run_files.specs.Made.{IsMadeOf}
use Rattle.run_files.specs.Resumed.{IsLeftOfFile, IsOneRunOf, IsResumedFile}

-- a core can go on from it
pub begins_in : (program : Marked) (bytes : Text) (budget : ℕ) (x : Frozen) (first : First)
    → IsMadeOf program bytes budget x first → BeginsIn x first budget
begins_in program bytes budget x first made =
    let sound = made.read.usable.sound in
    let few : HasRoom made.frozen budget = made.within in (
      thawed_first made.frozen,
      made.begins,
      record {
        first = frozen_are_first made.frozen sound;
        whole = frozen_are_whole made.frozen sound;
        stands = made.stands;
        small = omega (arith, few);
      },
    )

-- where the bytes are a file of the program, its run and what was saved are one run
one_run : (program : Marked) (bytes : Text) (f : FrozenShape) (budget : ℕ) (journal : List EntryShape) (t : RunShape)
    → IsChecked program → IsReadAs program bytes f → HasRoom f budget → GoesOn f budget journal t
    → IsOneRunOf program bytes f budget t
one_run program bytes f budget journal t checked read few goes = λ source text file.
    let resumed = programs_are_resumed source bytes program f text checked file read.reads in
    record {
      one = resumed.one budget journal t goes;
      reports = λ depth.
          files_report_replays source bytes program f budget journal t depth text checked file read.reads few goes;
      again = resumed.again budget journal t goes;
    }

-- what is left of a run of what was read
module _ (program : Marked) (bytes : Text) (budget : ℕ) (x : Frozen) (first : First)
    (made : IsMadeOf program bytes budget x first) (checked : IsChecked program) where
  one : (journal : List EntryShape) (t : RunShape) → GoesOn made.frozen budget journal t
      → IsOneRunOf program bytes made.frozen budget t
  one journal t goes = one_run program bytes made.frozen budget journal t checked made.read made.within goes

  pub end_of_file : (r : RunEnd) → IsResumedEnd (plain program) (thawed_first made.frozen) budget r
      → IsResumedFile program bytes budget r
  end_of_file r end = record {
    frozen = made.frozen;
    read = made.read;
    within = made.within;
    end = end;
    one = one end.journal end.run end.lawful;
  }

  pub left_of_file : (r : Saved) → IsLeftSince program (thawed_first made.frozen) budget r
      → IsLeftOfFile program bytes budget r
  unfolding end_of_file
  left_of_file (Stopped pieces) stop = record {
    frozen = made.frozen;
    read = made.read;
    within = made.within;
    stop = stop;
    one = one stop.journal stop.run stop.lawful;
    again = λ source text file.
        subst (IsFileOf program) (sym stop.text) (one stop.journal stop.run stop.lawful source text file).again;
  }
  left_of_file (Ended end) e = (end_of_file end e.0, e.1)
