-- The text of a remark: its place and what it says, and then its line with a caret below the place.
use Rattle.std.specs.Prelude.{ℕ, Bool, true, false, ◌==◌, nat_le, ◌&&◌, ◌||◌, if◌then◌else◌}
use Rattle.std.specs.Prelude.{List, [], ◌++◌, map, Option, Some, None, codes}
use Rattle.std.specs.Fmt.{decimal}
use Rattle.explain.specs.declared.remark.Severity.{Severity}
use Rattle.explain.specs.declared.remark.Severity.TheVariants.{Error, Warning, Note}
use Rattle.text_places.specs.declared.position.Position.{Position}

abbrev pub severity_text : Severity → List ℕ
severity_text Error = codes "error"
severity_text Warning = codes "warning"
severity_text Note = codes "note"

-- where it is, how bad it is, and what it says
abbrev pub heading : List ℕ → Position → List ℕ → List ℕ → List ℕ
heading file p severity sentence =
    file ++ codes ":" ++ decimal p.line ++ codes ":" ++ decimal p.column ++ codes ": " ++ severity ++ codes ": "
    ++ sentence ++ codes "\n"

-- a byte of a text as it is shown: a tab as it is, and what is no printable sign of ASCII as `?`
abbrev pub shown : ℕ → ℕ
shown b = if b == 9 || (nat_le 32 b && nat_le b 126) then b else if b == 13 then 32 else 63

-- the blank below a byte
abbrev pub blank : ℕ → ℕ
blank b = if b == 9 then 9 else 32

-- a byte as it is shown, or the blank below it
abbrev pub glyph : Bool → ℕ → ℕ
glyph true = blank
glyph false = shown

-- the line, and the caret below the place
abbrev pub excerpt : List ℕ → List ℕ → List ℕ
excerpt front back =
    codes "    " ++ map shown front ++ map shown back ++ codes "\n    " ++ map blank front ++ codes "^\n"

-- a cure, where there is a common one
abbrev pub cure_line : Option (List ℕ) → List ℕ
cure_line None = []
cure_line (Some cure) = codes "  help: " ++ cure ++ codes "\n"
