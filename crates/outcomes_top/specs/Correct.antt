-- What is told, and the main theorem: `Completes` is the clause `complete`, and `Answers` what is written for a task.
use Rattle.std.specs.Prelude.{◌≡◌, ◌-◌, ℕ, Bool, true, false, List, [], Option, Some, None, slice_get}
use Rattle.asp_model.specs.Marked.{Marked, plain}
use Rattle.asp_model.specs.Term.{Tree}
use Rattle.asp_model.specs.Outcome.{exit_status, outcome_of}
use Rattle.asp_top.specs.Correct.{report_at}
use Rattle.asp_top.specs.Ended.{IsEnded}
use Rattle.asp_top.specs.Programs.{IsInFile}
use Rattle.asp_top.specs.Seen.{Call, IsUntouched, Outside, Takes}
use Rattle.law_families.specs.Families.{RunLogs}
use Rattle.outcomes_text.specs.Outcomes.{Outcome, outcomes_among}
use Rattle.outcomes_words.specs.Words.{TaskShape, is_taken, task_of}
use Rattle.outcomes_words.specs.declared.task.Choice.{Choice}
use Rattle.outcomes_words.specs.declared.task.Choice.TheVariants as choices
use Rattle.outcomes_top.specs.Families.{AreAll, IsFamily, end_of, seen_of, status_of_family, text_of_family, worst_of}
use Rattle.outcomes_top.specs.Given.{AreShown}

-- ends of a program that were found, by classes of labels or by whole orders, or given, and whether they are all
pub record Found (program : Tree) : Type 0 where
  pub by_classes : Bool
  pub whole : Bool
  pub ends : List RunLogs
  pub family : IsFamily program by_classes whole ends

-- they are not by classes of labels where the task asks for whole orders, or names files for the ends
pub record AreInOrders (task : TaskShape) (by_classes : Bool) : Type 0 where
  pub asked : task.whole_orders ≡ true → by_classes ≡ false
  pub given : (task.given ≡ [] → ⊥) → by_classes ≡ false

-- the ends are such as the task asks for: where it names files for them, those whose reports they are
pub record AreAsked (o : Outside) (task : TaskShape) (program : Tree) (f : Found program) : Type 0 where
  pub shown : AreShown o program task.given f.ends
  pub orders : AreInOrders task f.by_classes

abbrev pub outcomes_of : Option ℕ → Tree → List RunLogs → List Outcome
outcomes_of depth program ends = outcomes_among (seen_of depth program ends)

-- the first end of an outcome, by its number from 1
pub record IsFirstOf (depth : Option ℕ) (program : Tree) (ends : List RunLogs) (number : ℕ) (x : RunLogs) : Type 0 where
  pub outcome : Outcome
  pub there : slice_get (outcomes_of depth program ends) (number - 1) ≡ Some outcome
  pub first : slice_get ends outcome.first ≡ Some x

-- without `--report` and `--end`: the text that tells the outcomes of the ends
abbrev pub TellsAll : Option ℕ → Tree → Bool → List RunLogs → List ℕ → ℕ → Type 0
TellsAll depth program whole ends text status =
    (text ≡ text_of_family depth program whole ends) × (status ≡ status_of_family program whole ends)

-- the end that is chosen: the first one of an outcome, or one by its own number from 1
abbrev pub IsChoice : Option ℕ → Tree → List RunLogs → Choice → RunLogs → Type 0
IsChoice depth program ends (choices.Outcome number) x = IsFirstOf depth program ends number x
IsChoice depth program ends (choices.End number) x = slice_get ends (number - 1) ≡ Some x

-- with `--report` or `--end`: the report of that end, which is its replay's
abbrev pub TellsOne : Option ℕ → Tree → List RunLogs → Choice → List ℕ → ℕ → Type 0
TellsOne depth program ends choice text status = (x : RunLogs) × IsChoice depth program ends choice x
    × (text ≡ report_at depth (end_of program x)) × (status ≡ exit_status (outcome_of (end_of program x)))

abbrev pub Tells : Option ℕ → Tree → Bool → List RunLogs → Option Choice → List ℕ → ℕ → Type 0
Tells depth program whole ends None text status = TellsAll depth program whole ends text status
Tells depth program whole ends (Some choice) text status = TellsOne depth program ends choice text status

-- what a call writes for its task: of the program in the file, and of the ends that were found, or whose reports are in
-- the files that `--check-ends` names
abbrev pub Answers : Outside → TaskShape → List ℕ → ℕ → Type 0
Answers o task text status = (program : Marked) × IsInFile o task.file program
    × (f : Found (plain program)) × AreAsked o task (plain program) f
    × Tells task.depth (plain program) f.whole f.ends task.choice text status

-- the ends that were found or given are all that the program has, and the text that tells them was written
pub record IsWhole (c : Call) (task : TaskShape) (status : ℕ) : Type 0 where
  pub program : Marked
  pub given : IsInFile c.outside task.file program
  pub ends : List RunLogs
  pub shown : AreShown c.outside (plain program) task.given ends
  pub by_classes : Bool
  pub orders : AreInOrders task by_classes
  pub complete : AreAll by_classes (plain program) ends
  pub status_is : status ≡ worst_of (plain program) ends
  pub written : Takes c.out (text_of_family task.depth (plain program) true ends)
  pub silent : IsUntouched c.err

-- with 0, 1 or 4, where the words ask for no report and no help
abbrev pub Completes : Call → ℕ → Type 0
Completes c status = (task : TaskShape) → is_taken c.words ≡ true → task_of c.words ≡ Some task → task.choice ≡ None
    → IsEnded status → IsWhole c task status
