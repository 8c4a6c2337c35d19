-- Pieces of a report's lines.
use Rattle.std.specs.Prelude.{ℕ, List, ◌++◌, codes}
use Rattle.std.specs.Fmt.{decimal}
use Rattle.asp_model.specs.Names.{Name}
use Rattle.asp_model.specs.Intent.{StatusShape}
use Rattle.asp_model.specs.Report.{name_text, status_text}

-- the line of an activity
abbrev pub activity_text : Name → ℕ → StatusShape → List ℕ
activity_text name count status =
    codes "activity " ++ name_text name ++ codes " " ++ decimal count
    ++ codes " " ++ status_text status
