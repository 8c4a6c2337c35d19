-- All that is told of a file.
use Rattle.std.specs.Prelude.{◌≡◌, ℕ, nat_eq, true, false, List, [], ◌++◌, map, Option, Some, None, codes}
use Rattle.std.specs.List.{concat}
use Rattle.std.specs.Fmt.{decimal}
use Rattle.explain.specs.declared.findings.Fault.{Fault}
use Rattle.explain.specs.declared.remark.Remark.{Remark}
use Rattle.explain.specs.Texts.{text_of}
use Rattle.explain.specs.Found.{IsFound, IsShownFirst}

-- the number of warnings, where there are any
abbrev pub warnings_text : ℕ → List ℕ
warnings_text n = elim (nat_eq n 0) [ true ↦ [] | false ↦ codes ", warnings: " ++ decimal n ]

abbrev pub no_fault_line : List ℕ → List ℕ → List ℕ
no_fault_line file warnings = file ++ codes ": no fault" ++ warnings ++ codes "\n"

-- a file without a fault is named as such, behind its warnings
abbrev pub closing : List ℕ → Option Fault → ℕ → List ℕ
closing file None warnings = no_fault_line file (warnings_text warnings)
closing file (Some fault) warnings = []

-- the texts of the remarks on a file
abbrev pub texts_of : List ℕ → List ℕ → List Remark → List ℕ
texts_of file bytes remarks = concat (map (text_of file bytes) remarks)

-- the text tells the first fault of the bytes of a file, with its place, or that they have none
pub record IsTold (file bytes : List ℕ) (fault : Option Fault) (text : List ℕ) : Type 0 where
  pub found : IsFound bytes fault
  pub remarks : List Remark
  pub first : IsShownFirst fault remarks
  pub warnings : ℕ
  pub text_is : text ≡ texts_of file bytes remarks ++ closing file fault warnings
