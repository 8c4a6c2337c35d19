-- Worked files.
use Prim.Native.String.{String}
use Rattle.std.specs.Prelude.{◌≡◌, ℕ, List, [], ◌∷◌, Option, Some, None, map, codes}
use Rattle.asp_model.specs.Names.{Text}
use Rattle.asp_model.specs.History.{EntryShape, Lent, Committed}
use Rattle.def_journals.specs.Journals.{RunShape, all_entered, run_from}
use Rattle.def_paths.specs.Outcomes.{report_lines_to, whole_outcome_of}
use Rattle.law_frozen.specs.Frozen.{thawed_first}
use Rattle.checkpoint_text.specs.Reading.{CheckpointReading, Reads}
use Rattle.checkpoint_text.specs.Rows.{read_with, text_with, three, worked_lines}
use Rattle.law_checkpoint_texts.specs.Files.{IsSavedFile}

-- the checkpoint of `print(1 + 2)` behind three reductions is a file of that program
abbrev pub SavedAtThree : Type 0
SavedAtThree = IsSavedFile (codes "print ( 1 + 2 )") three (text_with worked_lines)

-- the run that goes on from what was read
abbrev pub gone_on : CheckpointReading → ℕ → List EntryShape → Option RunShape
gone_on (Reads f) budget entries = all_entered entries (run_from (thawed_first f) budget)
gone_on reading budget entries = None

-- the lines of its report
abbrev pub reported_by : Option RunShape → List Text
reported_by None = []
reported_by (Some t) = report_lines_to None (whole_outcome_of t.configuration)

abbrev pub lines_of : List String → List Text
lines_of = map (λ l. codes l)

-- one reduction more, and 3 is printed
abbrev pub ResumedAtThree : Type 0
ResumedAtThree = reported_by (gone_on (read_with worked_lines) 1 (Lent 0 ∷ Committed 0 1 ∷ []))
    ≡ lines_of ("asp report 2" ∷ "verdict end" ∷ "activity 0 4 done" ∷ "senders" ∷ "> 3" ∷ [])
