-- What is read of a checkpoint and comes of it, and why there is nothing to write: for private functions alone.
use Rattle.std.specs.Prelude.{◌≡◌, ◌⊎◌, ℕ, List, None}
use Rattle.asp_model.specs.declared.limits.TheConstants.{MOST_CHECKPOINT_BYTES}
use Rattle.asp_model.specs.Marked.{Marked}
use Rattle.asp_model.specs.Outcome.{exit_status}
use Rattle.asp_model.specs.Shapes.{outcome_shape}
use Rattle.def_paths.specs.Outcomes.{WholeOutcome}
use Rattle.law_reports.specs.Depths.{report_to}
use Rattle.run_ends.specs.declared.ends.RunEnd.{RunEnd}
use Rattle.run_ends.specs.Ends.{IsEndOf}
use Rattle.run_saves.specs.declared.saved.Saved.{Saved}
use Rattle.run_saves.specs.declared.saved.Saved.TheVariants.{Ended, Stopped}
use Rattle.run_files.specs.declared.stop.FileStop.{FileStop}
use Rattle.run_files.specs.declared.stop.FileStop.TheVariants as why
use Rattle.run_files.specs.Files.{StopsFile}
use Rattle.run_files.specs.Resumed.{IsLeftOfFile, IsResumedFile}
use Rattle.asp_top.specs.declared.prepare.Prepared.{Prepared}
use Rattle.asp_top.specs.declared.resuming.Given.{Given}
use Rattle.asp_top.specs.declared.stop.Stop.{Stop}
use Rattle.asp_top.specs.Seen.{Outside, ReadFails, IsLong}
use Rattle.asp_top.specs.Programs.{IsFile, IsInFile}
use Rattle.asp_top.specs.Refusals.{Refusal, Unread, NoMemory}
use Rattle.asp_top.specs.Refusals.{LongCheckpoint, OtherCheckpoint, NoCheckpoint, Overspent}
use Rattle.asp_top.specs.Ready.{text_in, text_of_all}
use Rattle.asp_top.specs.Stops.{IsCheckedFile, RefusedInFile, program_in, refusal_of}

-- the cause of a stop at the file of a checkpoint, which is asked for at this place
abbrev pub RefusedInCheckpoint : Outside → ℕ → List ℕ → Refusal → Type 0
RefusedInCheckpoint o place checkpoint (Unread name) = (checkpoint ≡ name) × ReadFails o place name
RefusedInCheckpoint o place checkpoint LongCheckpoint = IsLong o place checkpoint MOST_CHECKPOINT_BYTES
RefusedInCheckpoint o place checkpoint NoMemory = Unit {0}
RefusedInCheckpoint o place checkpoint r = ⊥

abbrev pub StopsInCheckpoint : Outside → List ℕ → Stop → Type 0
StopsInCheckpoint o checkpoint s = RefusedInCheckpoint o 0 checkpoint (refusal_of s)

-- the file of this name has bytes from which no run of the program goes on, for this cause
abbrev pub IsStoppedAt : Outside → List ℕ → Marked → ℕ → FileStop → Type 0
IsStoppedAt o checkpoint program budget stop = (bytes : List ℕ)
    × IsFile o 1 checkpoint MOST_CHECKPOINT_BYTES bytes × StopsFile program bytes budget stop

-- and of one at a run that was to go on from it
abbrev pub RefusedInResume : Outside → List ℕ → Marked → ℕ → Refusal → Type 0
RefusedInResume o checkpoint program budget OtherCheckpoint = IsStoppedAt o checkpoint program budget why.OtherProgram
RefusedInResume o checkpoint program budget NoCheckpoint = IsStoppedAt o checkpoint program budget why.Malformed
RefusedInResume o checkpoint program budget Overspent = IsStoppedAt o checkpoint program budget why.TooMany
RefusedInResume o checkpoint program budget r = RefusedInCheckpoint o 1 checkpoint r

-- the program in a file, and the bytes of the checkpoint in another
pub record IsGiven (o : Outside) (file checkpoint : List ℕ) (g : Given) : Type 0 where
  pub program : IsCheckedFile o file g.program
  pub bytes : IsFile o 1 checkpoint MOST_CHECKPOINT_BYTES g.checkpoint.items

-- why there are not both
abbrev pub RefusedGiven : Outside → List ℕ → List ℕ → Refusal → Type 0
RefusedGiven o file checkpoint r = RefusedInFile o file r
    ⊎ ((program : Marked) × IsInFile o file program × RefusedInCheckpoint o 1 checkpoint r)

abbrev pub StopsGiven : Outside → List ℕ → List ℕ → Stop → Type 0
StopsGiven o file checkpoint s = RefusedGiven o file checkpoint (refusal_of s)

-- why no run goes on from both
abbrev pub RefusedBoth : Outside → List ℕ → List ℕ → ℕ → Refusal → Type 0
RefusedBoth o file checkpoint budget r = RefusedInFile o file r
    ⊎ ((program : Marked) × IsInFile o file program × RefusedInResume o checkpoint program budget r)

abbrev pub StopsBoth : Outside → List ℕ → List ℕ → ℕ → Stop → Type 0
StopsBoth o file checkpoint budget s = RefusedBoth o file checkpoint budget (refusal_of s)

-- the end of a run that went on from both
pub record IsResumedRunOf (o : Outside) (file checkpoint : List ℕ) (budget : ℕ) (end : RunEnd) : Type 0 where
  pub both : Given
  pub given : IsGiven o file checkpoint both
  pub run : IsResumedFile (program_in both.program) both.checkpoint.items budget end

-- and what is left of one that is saved
pub record IsSavedAgainOf (o : Outside) (file checkpoint : List ℕ) (budget : ℕ) (saved : Saved) : Type 0 where
  pub both : Given
  pub given : IsGiven o file checkpoint both
  pub run : IsLeftOfFile (program_in both.program) both.checkpoint.items budget saved

-- what is left of a run, ready to be written
abbrev pub IsLeftOf : Saved → Prepared → Type 0
IsLeftOf (Stopped pieces) p = (text_in p ≡ text_of_all pieces.items) × (p.status ≡ 5)
IsLeftOf (Ended end) p = ((o : WholeOutcome) → IsEndOf end o → text_in p ≡ report_to None o)
    × (p.status ≡ exit_status (outcome_shape end.outcome))
