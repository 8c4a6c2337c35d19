-- Programs that stand in bytes.
use Rattle.std.specs.Prelude.{◌≡◌, ℕ, List, []}
use Rattle.asp_model.specs.Term.{locations}
use Rattle.asp_model.specs.Marked.{Marked, plain}
use Rattle.asp_model.specs.Readable.{IsReadable}
use Rattle.syntax_grammar.specs.Programs.{IsProgramText}
use Rattle.law_outcomes.specs.Texts.{HasPrintableTexts}

-- a program in bytes is what a program that was read is
abbrev pub ProgramsAreReadable : Type 0
ProgramsAreReadable = (bytes : List ℕ) (program : Marked)
    → IsProgramText bytes program → IsReadable (plain program)

-- it has no places of its own
abbrev pub ProgramsHaveNoPlaces : Type 0
ProgramsHaveNoPlaces = (bytes : List ℕ) (program : Marked)
    → IsProgramText bytes program → locations (plain program) ≡ []

-- and its texts have printable bytes alone
abbrev pub ProgramTextsArePrintable : Type 0
ProgramTextsArePrintable = (bytes : List ℕ) (program : Marked)
    → IsProgramText bytes program → HasPrintableTexts (plain program)
