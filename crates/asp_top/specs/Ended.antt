-- What two calls say of each other, and what a comparison says.
use Rattle.std.specs.Prelude.{◌≡◌, ◌⊎◌, ◌↔◌, ℕ, List, Option}
use Rattle.asp_model.specs.Marked.{plain}
use Rattle.law_steps.specs.Joins.{AreNarrow}
use Rattle.command_line.specs.Settings.{SettingsShape}
use Rattle.law_services.specs.Services.{AreServedAlike}
use Rattle.replay_services.specs.Compares.{AreStuck}
use Rattle.command_line.specs.Task.{Runs, Journals, Saves, Resumes, Compares, Traces}
use Rattle.law_program_files.specs.Programs.{IsFileOf}
use Rattle.asp_top.specs.Seen.{Outside}
use Rattle.asp_top.specs.Comparisons.{Same, ShowAlike, text_said}
use Rattle.asp_top.specs.Resumes.{ReportsBoth, stop_of}
use Rattle.asp_top.specs.Correct.{Answers, end_of, report_at}
use Rattle.asp_top.specs.Expected.{IsTraceOf}

-- the run has ended: nobody can go on
abbrev pub IsEnded : ℕ → Type 0
IsEnded status = (status ≡ 0) ⊎ (status ≡ 1) ⊎ (status ≡ 4)

-- two runs of one program that have ended, whose reports show states to one depth and read as equal logs, print
-- equal bytes
abbrev pub EndedRunsPrintTheSame : Type 0
EndedRunsPrintTheSame = (o p : Outside) (file name : List ℕ) (settings others : SettingsShape)
    → (depth : Option ℕ) (report other : List ℕ) (status code : ℕ)
    → (a : Answers o (Runs file settings depth) report status)
    → (b : Answers p (Runs name others depth) other code)
    → IsEnded status → IsEnded code
    → plain a.0.program ≡ plain b.0.program → a.0.lists ≡ b.0.lists → report ≡ other

-- and so do two of which each log of the first is narrow, of one sender and without a poll, whatever the logs of the
-- other
abbrev pub OneSenderPrintsTheSame : Type 0
OneSenderPrintsTheSame = (o p : Outside) (file name : List ℕ) (settings others : SettingsShape)
    → (depth : Option ℕ) (report other : List ℕ) (status code : ℕ)
    → (a : Answers o (Runs file settings depth) report status)
    → (b : Answers p (Runs name others depth) other code)
    → IsEnded status → IsEnded code
    → plain a.0.program ≡ plain b.0.program → AreNarrow a.0.lists → report ≡ other

-- `same` is written exactly where both replays are stuck and no service can tell, and then their reports are equal, at
-- every depth, but for the lines of logs
abbrev pub ComparisonsAreExact : Type 0
ComparisonsAreExact = (o : Outside) (file name other text : List ℕ) (status : ℕ)
    → (a : Answers o (Compares file name other) text status)
    → let program = plain a.0.program in
    let lists = a.0.first.lists in let counts = a.0.first.counts in
    let others = a.0.second.lists in let other_counts = a.0.second.counts in
    ((text ≡ text_said Same) ↔ (AreStuck program lists counts others other_counts
    × AreServedAlike program lists counts others other_counts))
    × (text ≡ text_said Same → ShowAlike program lists counts others other_counts)

-- what `--journal` writes is all that `--trace` asks of a trace, under the same budget, and from it a call with
-- `--trace` writes the report of this run, at every depth, with its status
abbrev pub JournalsAreAccepted : Type 0
JournalsAreAccepted = (o : Outside) (file : List ℕ) (settings : SettingsShape) (text : List ℕ) (status : ℕ)
    → (a : Answers o (Journals file settings) text status)
    → IsTraceOf (plain a.0.program) settings.budget text
    × ((p : Outside) (other name : List ℕ) (depth : Option ℕ) (report : List ℕ) (code : ℕ)
    → (b : Answers p (Traces other name settings.budget depth) report code)
    → plain b.0.program ≡ plain a.0.program → b.4.old.bytes ≡ text
    → (report ≡ report_at depth (end_of a.0)) × (code ≡ status))

-- what `--save` writes with status 5 is the checkpoint of where a run of the program stood; and what a call writes as
-- the report of a run that went on from it, under whatever settings, is the report of both halves
abbrev pub SavesAreResumed : Type 0
SavesAreResumed = (o : Outside) (file : List ℕ) (settings : SettingsShape) (text : List ℕ) (status : ℕ)
    → (a : Answers o (Saves file settings) text status) → status ≡ 5
    → IsFileOf a.0.program text
    × ((p : Outside) (other name : List ℕ) (later : SettingsShape) (depth : Option ℕ) (report : List ℕ) (code : ℕ)
    → (b : Answers p (Resumes other name later depth) report code)
    → b.0.program ≡ a.0.program → b.0.bytes ≡ text
    → ReportsBoth (plain b.0.program) b.0.frozen (stop_of b.0) depth report code)
