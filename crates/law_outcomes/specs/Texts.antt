-- Texts and labels that a report shows as they are.
use Rattle.std.specs.Prelude.{◌≡◌, ◌&&◌, Bool, true}
use Rattle.std.specs.List.{list_all}
use Rattle.asp_model.specs.Names.{Name}
use Rattle.asp_model.specs.Term.{Head, Make, Echo, Tree}
use Rattle.asp_model.specs.Configuration.{Activity, Configuration}
use Rattle.asp_model.specs.WellFormed.{is_printable, is_printable_line}
use Rattle.law_steps.specs.Reached.{IsReached, IsAt}
use Rattle.def_paths.specs.Outcomes.{whole_outcome_of}
use Rattle.law_reports.specs.Depths.{HasPrintableLabels}
use Rattle.law_outcomes.specs.Heads.{EachHead, Passes}

-- the text of an `echo` has printable bytes alone, and so have the labels of an object
abbrev pub has_printable_text : Head → Bool
has_printable_text (Echo text) = list_all is_printable text
has_printable_text (Make labels methods) = list_all (list_all is_printable) labels && list_all (λ m. list_all is_printable m.label) methods
has_printable_text h = true

-- so have all of a term
abbrev pub HasPrintableTexts : Tree → Type 0
HasPrintableTexts = EachHead (Passes has_printable_text)

-- what such a program reaches has written printable lines alone
abbrev pub LinesArePrintable : Type 0
LinesArePrintable = (program : Tree) (c : Configuration) (n : Name) (a : Activity)
    → HasPrintableTexts program → IsReached program c → IsAt c n a
    → list_all is_printable_line a.lines ≡ true

-- and its objects have printable labels
abbrev pub LabelsArePrintable : Type 0
LabelsArePrintable = (program : Tree) (c : Configuration)
    → HasPrintableTexts program → IsReached program c → HasPrintableLabels (whole_outcome_of c)
