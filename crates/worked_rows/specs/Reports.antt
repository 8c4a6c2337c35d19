-- What a worked run shows: its report, typed in line by line, and the exit status.
use Prim.Native.String.{String}
use Rattle.std.specs.Prelude.{◌≡◌, ℕ, List, [], ◌∷◌, map, codes}
use Rattle.asp_model.specs.Names.{Name, main_name, created_name}
use Rattle.asp_model.specs.Term.{Tree}
use Rattle.asp_model.specs.Configuration.{ReceptionShape, Configuration, log_of}
use Rattle.asp_model.specs.Step.{ListsShape}
use Rattle.asp_model.specs.Replay.{CountsShape, Fits, plain_run, replay}
use Rattle.asp_model.specs.Outcome.{outcome_of, exit_status}
use Rattle.asp_model.specs.Report.{text_of, report_of}
use Rattle.asp_model.specs.ReadReport.{Reading, Reads, read_report}

-- the k-th activity that main creates
abbrev pub created : ℕ → Name
created k = created_name main_name k

-- what a report says of an activity: its count, and its log
abbrev pub Entry : Type 0
Entry = Name × ℕ × List ReceptionShape

abbrev pub lists_in : List Entry → ListsShape
lists_in entries = map (λ e. (e.0, e.2)) entries

abbrev pub counts_in : List Entry → CountsShape
counts_in entries = map (λ e. (e.0, e.1)) entries

-- what a configuration leaves of each activity
abbrev pub entries_of : Configuration → List Entry
entries_of c = map (λ x. (x.0, x.1.reductions, log_of c x.0)) c.activities

abbrev pub replayed : Tree → List Entry → Configuration
replayed program entries = replay program (lists_in entries) (counts_in entries)

-- a configuration has this exit status, and its report has these lines
pub record Shows (c : Configuration) (status : ℕ) (lines : List String) : Type 0 where
  pub exits : exit_status (outcome_of c) ≡ status
  pub report : report_of (outcome_of c) ≡ text_of (map codes lines)

abbrev pub read_lines : List String → Reading
read_lines lines = read_report (text_of (map codes lines))

-- the lists and counts of these entries fit the program, their replay shows these lines, and they stand in these lines
pub record Replays (program : Tree) (entries : List Entry) (status : ℕ) (lines : List String) : Type 0 where
  pub fits : Fits program (lists_in entries) (counts_in entries)
  pub shows : Shows (replayed program entries) status lines
  pub reads : read_lines lines ≡ Reads (lists_in entries) (counts_in entries)

-- the plain run within a budget shows these lines, and so does the replay under the entries that stand in them
pub record Reports (program : Tree) (budget : ℕ) (entries : List Entry) (status : ℕ) (lines : List String) : Type 0 where
  pub plain : Shows (plain_run budget program) status lines
  pub under_lists : Replays program entries status lines

-- main takes this many reductions within a budget, and receives nothing
abbrev pub ReportsAlone : Tree → ℕ → ℕ → ℕ → List String → Type 0
ReportsAlone program budget count status lines = Reports program budget ((main_name, count, []) ∷ []) status lines

-- the replay under these entries leaves others, so they do not fit
pub record Diverges (program : Tree) (entries : List Entry) (left : List Entry) : Type 0 where
  pub leaves : entries_of (replayed program entries) ≡ left
  pub misfit : Fits program (lists_in entries) (counts_in entries) → ⊥
