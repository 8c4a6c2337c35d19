-- The outcomes of runs, and their reports.
use Rattle.std.specs.Prelude.{◌≡◌, ◌≤◌, ℕ, List, Option, None, length}
use Rattle.asp_model.specs.declared.limits.TheConstants.{MOST_REDUCTIONS}
use Rattle.asp_model.specs.Names.{Name}
use Rattle.asp_model.specs.Term.{Tree}
use Rattle.asp_model.specs.Configuration.{Configuration, start}
use Rattle.asp_model.specs.Step.{ListsShape}
use Rattle.asp_model.specs.Status.{IsStuck}
use Rattle.asp_model.specs.Replay.{CountsShape, total, lists_of, counts_of, plain_run, replay, Fits}
use Rattle.asp_model.specs.Outcome.{outcome_of}
use Rattle.asp_model.specs.WellFormed.{IsWellFormed}
use Rattle.asp_model.specs.ReadReport.{read_report, Reads}
use Rattle.def_paths.specs.Outcomes.{WholeOutcome, whole_outcome_of}
use Rattle.law_reports.specs.Depths.{report_to}
use Rattle.law_steps.specs.Reached.{IsReached, RunsTo}
use Rattle.law_steps.specs.Kept.{creations_of, sends_of}
use Rattle.law_steps.specs.Joins.{AreNarrow}
use Rattle.law_steps.specs.Replays.{IsItsReplay}
use Rattle.law_outcomes.specs.Texts.{HasPrintableTexts}

-- no activity has created, or has sent, more often than all together have reduced
abbrev pub NumbersAreWithin : Type 0
NumbersAreWithin = (program : Tree) (c : Configuration) (n : Name) → IsReached program c
    → (creations_of c n ≤ total (counts_of c)) × (sends_of c n ≤ total (counts_of c))

-- a configuration that a program with printable texts reached within 10,000,000 reductions
pub record IsShown (program : Tree) (c : Configuration) : Type 0 where
  pub texts : HasPrintableTexts program
  pub reached : IsReached program c
  pub within : total (counts_of c) ≤ MOST_REDUCTIONS

-- the outcome of such a configuration is well formed
abbrev pub OutcomesAreWellFormed : Type 0
OutcomesAreWellFormed = (program : Tree) (c : Configuration)
    → IsShown program c → IsWellFormed (outcome_of c)

-- and its report, at whatever depth it shows states, reads as the configuration's logs and counts
abbrev pub ReportsOfRunsAreRead : Type 0
ReportsOfRunsAreRead = (depth : Option ℕ) (program : Tree) (c : Configuration)
    → IsShown program c → read_report (report_to depth (whole_outcome_of c)) ≡ Reads (lists_of c) (counts_of c)

-- the report of an outcome at a depth reads as lists and counts that fit, and their replay has this outcome
pub record ShowsItsReplay (depth : Option ℕ) (program : Tree) (o : WholeOutcome) : Type 0 where
  pub lists : ListsShape
  pub counts : CountsShape
  pub read : read_report (report_to depth o) ≡ Reads lists counts
  pub fits : Fits program lists counts
  pub outcome : whole_outcome_of (replay program lists counts) ≡ o

-- a configuration that is its own replay shows it
abbrev pub ReportsShowReplays : Type 0
ReportsShowReplays = (depth : Option ℕ) (program : Tree) (c : Configuration)
    → IsShown program c → IsItsReplay program c → ShowsItsReplay depth program (whole_outcome_of c)

-- a run without lists shows its replay, in whatever order its activities stepped
abbrev pub RunsShowReplays : Type 0
RunsShowReplays = (depth : Option ℕ) (program : Tree) (names : List Name) (c : Configuration)
    → HasPrintableTexts program → RunsTo None (start program) names c → length names ≤ MOST_REDUCTIONS
    → ShowsItsReplay depth program (whole_outcome_of c)

-- and so does the run of one thread
abbrev pub PlainRunsShowReplays : Type 0
PlainRunsShowReplays = (depth : Option ℕ) (n : ℕ) (program : Tree)
    → HasPrintableTexts program → n ≤ MOST_REDUCTIONS
    → ShowsItsReplay depth program (whole_outcome_of (plain_run n program))

-- the report of a replay reads as the lists and counts that it was made under, where they fit
abbrev pub ReplayReportsAreRead : Type 0
ReplayReportsAreRead = (depth : Option ℕ) (program : Tree) (lists : ListsShape) (counts : CountsShape)
    → HasPrintableTexts program → Fits program lists counts → total counts ≤ MOST_REDUCTIONS
    → read_report (report_to depth (whole_outcome_of (replay program lists counts))) ≡ Reads lists counts

-- the report at a depth of a run of the program that ended: it reads as these logs, with counts that
-- fit beside them, and is that of the replay under them, which is stuck
pub record IsEndReport (depth : Option ℕ) (program : Tree) (lists : ListsShape) (report : List ℕ) : Type 0 where
  pub counts : CountsShape
  pub read : read_report report ≡ Reads lists counts
  pub fits : Fits program lists counts
  pub same : report ≡ report_to depth (whole_outcome_of (replay program lists counts))
  pub stuck : IsStuck (replay program lists counts)

-- two such reports at one depth with equal lists are equal bytes
abbrev pub EndReportsAgree : Type 0
EndReportsAgree = (depth : Option ℕ) (program : Tree) (lists : ListsShape) (report other : List ℕ)
    → IsEndReport depth program lists report → IsEndReport depth program lists other → report ≡ other

-- where the logs of such a report are narrow, each of one sender and without a poll, every run of the program that
-- ends prints these bytes at this depth
abbrev pub NarrowReportsAreAll : Type 0
NarrowReportsAreAll = (depth : Option ℕ) (program : Tree) (lists others : ListsShape) (report other : List ℕ)
    → IsEndReport depth program lists report → AreNarrow lists → IsEndReport depth program others other → other ≡ report
