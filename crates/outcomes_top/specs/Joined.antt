-- What a complete call says of each run of the program by `asp`.
use Rattle.std.specs.Prelude.{◌≡◌, ◌<◌, ℕ, Bool, List, Option}
use Rattle.asp_model.specs.Marked.{plain}
use Rattle.asp_model.specs.Term.{Tree}
use Rattle.asp_model.specs.Configuration.{Configuration}
use Rattle.command_line.specs.Settings.{SettingsShape}
use Rattle.command_line.specs.Task.{Runs}
use Rattle.def_paths.specs.Outcomes.{whole_outcome_of}
use Rattle.law_families.specs.Families.{Has, IsComplete, RunLogs}
use Rattle.asp_top.specs.Correct.{Answers, report_at}
use Rattle.asp_top.specs.Ended.{IsEnded}
use Rattle.asp_top.specs.Seen.{Outside}
use Rattle.outcomes_text.specs.Outcomes.{text_seen}
use Rattle.outcomes_top.specs.Families.{AreAll, end_of, longest_of}

-- where the ends are all by whole orders, each run of the program that has ended printed the report of one of them
abbrev pub EndedRunsAreFound : Type 0
EndedRunsAreFound = (o : Outside) (file : List ℕ) (settings : SettingsShape) (depth : Option ℕ)
    → (report : List ℕ) (status : ℕ) (program : Tree) (ends : List RunLogs)
    → (a : Answers o (Runs file settings depth) report status) → IsEnded status
    → plain a.0.program ≡ program → IsComplete program ends
    → (x : RunLogs) × Has ends x × (report ≡ report_at depth (end_of program x))

-- the report, at a depth, of a configuration of which the same is seen as of this one: all lines but the first and
-- those of logs
pub record LooksAs (depth : Option ℕ) (c : Configuration) (report : List ℕ) : Type 0 where
  pub other : Configuration
  pub is : report ≡ report_at depth other
  pub seen : text_seen depth (whole_outcome_of other) ≡ text_seen depth (whole_outcome_of c)

-- where they are all, also by classes of labels, it printed the report of one of them but for the lines of logs
abbrev pub EndedRunsAreAlike : Type 0
EndedRunsAreAlike = (o : Outside) (file : List ℕ) (settings : SettingsShape) (depth : Option ℕ)
    → (report : List ℕ) (status : ℕ) (program : Tree) (by_classes : Bool) (ends : List RunLogs)
    → (a : Answers o (Runs file settings depth) report status) → IsEnded status
    → plain a.0.program ≡ program → AreAll by_classes program ends
    → (x : RunLogs) × Has ends x × LooksAs depth (end_of program x) report

-- and a run spends its budget only where that is less than the longest of them
abbrev pub SpentRunsAreShort : Type 0
SpentRunsAreShort = (o : Outside) (file : List ℕ) (settings : SettingsShape) (depth : Option ℕ)
    → (report : List ℕ) (program : Tree) (by_classes : Bool) (ends : List RunLogs)
    → (a : Answers o (Runs file settings depth) report 5)
    → plain a.0.program ≡ program → AreAll by_classes program ends → settings.budget < longest_of ends
