-- What a status says by itself: all of it follows from `Ends`.
use Rattle.std.specs.Prelude.{◌≡◌, ◌⊎◌, ℕ, ◌+◌, true, false, List, Some}
use Rattle.std.specs.List.{list_any}
use Rattle.asp_model.specs.Names.{Name}
use Rattle.asp_model.specs.Configuration.{Configuration}
use Rattle.asp_model.specs.Marked.{plain}
use Rattle.asp_model.specs.Status.{End, Blocked, Budget, IsStuck, is_awaiting, statuses_of, verdict_of}
use Rattle.asp_model.specs.Outcome.{counts_in, outcome_of}
use Rattle.asp_model.specs.Replay.{total}
use Rattle.law_journals.specs.Budgets.{spent_in}
use Rattle.law_frozen.specs.Frozen.{thawed}
use Rattle.asp_syntax.specs.declared.error.SyntaxFault.{SyntaxFault}
use Rattle.asp_check.specs.declared.fault.CheckFault.{CheckFault}
use Rattle.command_line.specs.Task.{TaskShape, Runs, Checks, Rules, Journals, Saves, Resumes, SavesAgain}
use Rattle.command_line.specs.Task.{Replays, Compares, Traces, Makes, task_of}
use Rattle.asp_top.specs.declared.stop.Which.{Which}
use Rattle.asp_top.specs.Seen.{Call, Outside, SomeReadFails, Takes, Fails}
use Rattle.asp_top.specs.Refusals.{LongProgram, NoProgram, Unchecked, LongReport, NoReport, Diverges}
use Rattle.asp_top.specs.Refusals.{LongTrace, NoTrace, Unlawful, Unfinished}
use Rattle.asp_top.specs.Refusals.{LongCheckpoint, OtherCheckpoint, NoCheckpoint, Overspent}
use Rattle.replay_services.specs.Compares.{AreStuck}
use Rattle.asp_top.specs.Comparisons.{Unended}
use Rattle.asp_top.specs.Resumes.{stop_of}
use Rattle.asp_top.specs.Correct.{Answers, IsSaid, ReplaysOf, end_of}
use Rattle.asp_top.specs.Endings.{IsCause}

-- What a status says of a replay

-- the replay is stuck, and no activity awaits a future's value
pub record IsEnd (c : Configuration) : Type 0 where
  pub verdict : verdict_of c ≡ End
  pub stuck : IsStuck c
  pub none_awaits : list_any is_awaiting (statuses_of c) ≡ false

-- it is stuck, and some activity awaits
pub record IsBlocked (c : Configuration) : Type 0 where
  pub verdict : verdict_of c ≡ Blocked
  pub stuck : IsStuck c
  pub some_awaits : list_any is_awaiting (statuses_of c) ≡ true

-- it can go on
pub record GoesOn (c : Configuration) : Type 0 where
  pub verdict : verdict_of c ≡ Budget
  pub free : IsStuck c → ⊥

-- both replays of a comparison are stuck
abbrev pub AreEnded : {o : Outside} {file name other : List ℕ} → ReplaysOf o file name other → Type 0
AreEnded r = AreStuck (plain r.program) r.first.lists r.first.counts r.second.lists r.second.counts

-- a fact of answers
abbrev pub OfAnswers : Type 1
OfAnswers = (o : Outside) (task : TaskShape) (text : List ℕ) (status : ℕ)
    → Answers o task text status → Type 0

-- what status 0 or 1 says of an answer: a comparison has 0 alone, and both replays are stuck
abbrev pub HasEnded : OfAnswers
HasEnded o (Runs file settings depth) text status a = IsEnd (end_of a.0)
HasEnded o (Checks file) text status a = status ≡ 0
HasEnded o (Rules file settings) text status a = IsEnd (end_of a.0)
HasEnded o (Journals file settings) text status a = IsEnd (end_of a.0)
HasEnded o (Saves file settings) text status a = IsEnd (end_of a.0)
HasEnded o (Resumes file name settings depth) text status a = IsEnd (stop_of a.0)
HasEnded o (SavesAgain file name settings) text status a = IsEnd (stop_of a.0)
HasEnded o (Replays file name depth) text status a = IsEnd (end_of a.0)
HasEnded o (Compares file name other) text status a = (status ≡ 0) × AreEnded a.0
HasEnded o (Traces file name budget depth) text status a = IsEnd (end_of a.0)
HasEnded o (Makes pairs settings) text status a = IsEnd (end_of a.0)

-- what status 4 says of it
abbrev pub HasBlocked : OfAnswers
HasBlocked o (Runs file settings depth) text status a = IsBlocked (end_of a.0)
HasBlocked o (Checks file) text status a = ⊥
HasBlocked o (Rules file settings) text status a = IsBlocked (end_of a.0)
HasBlocked o (Journals file settings) text status a = IsBlocked (end_of a.0)
HasBlocked o (Saves file settings) text status a = IsBlocked (end_of a.0)
HasBlocked o (Resumes file name settings depth) text status a = IsBlocked (stop_of a.0)
HasBlocked o (SavesAgain file name settings) text status a = IsBlocked (stop_of a.0)
HasBlocked o (Replays file name depth) text status a = IsBlocked (end_of a.0)
HasBlocked o (Compares file name other) text status a = ⊥
HasBlocked o (Traces file name budget depth) text status a = IsBlocked (end_of a.0)
HasBlocked o (Makes pairs settings) text status a = IsBlocked (end_of a.0)

-- what status 5 says of it: a run, traced, saved or neither, has spent its budget, one that went on has spent what was
-- counted before too, and of two replays one can go on
abbrev pub HasSpent : OfAnswers
HasSpent o (Runs file settings depth) text status a = GoesOn (end_of a.0) × (total a.0.counts ≡ settings.budget)
HasSpent o (Checks file) text status a = ⊥
HasSpent o (Rules file settings) text status a = GoesOn (end_of a.0) × (total a.0.counts ≡ settings.budget)
HasSpent o (Journals file settings) text status a = GoesOn (end_of a.0) × (total a.0.counts ≡ settings.budget)
HasSpent o (Saves file settings) text status a = GoesOn (end_of a.0) × (total a.0.counts ≡ settings.budget)
HasSpent o (Resumes file name settings depth) text status a =
    GoesOn (stop_of a.0)
    × (total (counts_in (outcome_of (stop_of a.0))) ≡ spent_in (thawed a.0.frozen) + settings.budget)
HasSpent o (SavesAgain file name settings) text status a =
    GoesOn (stop_of a.0)
    × (total (counts_in (outcome_of (stop_of a.0))) ≡ spent_in (thawed a.0.frozen) + settings.budget)
HasSpent o (Replays file name depth) text status a = GoesOn (end_of a.0)
HasSpent o (Compares file name other) text status a = IsSaid a.0 Unended
HasSpent o (Traces file name budget depth) text status a = GoesOn (end_of a.0) × (total a.0.counts ≡ budget)
HasSpent o (Makes pairs settings) text status a = GoesOn (end_of a.0) × (total a.0.counts ≡ settings.budget)

-- a text was written of which this holds
pub record Says (P : OfAnswers) (c : Call) (status : ℕ) : Type 0 where
  pub task : TaskShape
  pub asked : task_of c.words ≡ Some task
  pub text : List ℕ
  pub answer : Answers c.outside task text status
  pub written : Takes c.out text
  pub says : P c.outside task text status answer

abbrev pub SaysEnd : Call → ℕ → Type 0
SaysEnd = Says HasEnded

abbrev pub SaysBlocked : Call → ℕ → Type 0
SaysBlocked = Says HasBlocked

abbrev pub SaysBudget : Call → ℕ → Type 0
SaysBudget = Says HasSpent

-- Causes

-- the program is too long, none, or not checked
abbrev pub IsUnfit : Call → Type 0
IsUnfit c = IsCause c LongProgram ⊎ ((fault : SyntaxFault) × IsCause c (NoProgram fault))
    ⊎ ((fault : CheckFault) × IsCause c (Unchecked fault))

-- one of the reports is too long, none, or does not fit
abbrev pub IsNotReplayed : Call → Type 0
IsNotReplayed c = (which : Which) × (IsCause c (LongReport which) ⊎ ((line : ℕ) × IsCause c (NoReport which line))
    ⊎ ((activity : Name) × IsCause c (Diverges which activity)))

-- the trace is too long, none, not lawful, or unfinished
abbrev pub IsNotTraced : Call → Type 0
IsNotTraced c = IsCause c LongTrace ⊎ ((line : ℕ) × IsCause c (NoTrace line))
    ⊎ ((entry : ℕ) × IsCause c (Unlawful entry)) ⊎ IsCause c Unfinished

-- the checkpoint is too long, or one of another program, or none from which a run can go on, or it has counted too many
-- reductions for the budget
abbrev pub IsNotResumed : Call → Type 0
IsNotResumed c = IsCause c LongCheckpoint ⊎ IsCause c OtherCheckpoint ⊎ IsCause c NoCheckpoint ⊎ IsCause c Overspent

-- a read failed, a sink failed, or memory ran out
abbrev pub CouldNot : Call → ℕ → Type 0
CouldNot c status = ((status ≡ 6) × SomeReadFails c.outside)
    ⊎ ((status ≡ 7) × (Fails c.out ⊎ Fails c.err)) ⊎ (status ≡ 8)
