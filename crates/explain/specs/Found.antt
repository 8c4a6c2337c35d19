-- What is found in a text: its first fault, or that it is a checked program.
use Rattle.std.specs.Prelude.{◌≡◌, ℕ, List, [], ◌∷◌, Option, Some, None}
use Rattle.asp_model.specs.Marked.{Marked}
use Rattle.syntax_tokens.specs.Tokens.{lexemes_of}
use Rattle.syntax_grammar.specs.Programs.{IsProgramText}
use Rattle.asp_syntax.specs.declared.error.SyntaxFault.{SyntaxFault}
use Rattle.asp_syntax.specs.Faults.{FirstFault}
use Rattle.asp_check.specs.declared.fault.CheckFault.{CheckFault}
use Rattle.asp_check.specs.Faults.{IsChecked, IsFirstFault}
use Rattle.explain.specs.declared.findings.Fault.{Fault}
use Rattle.explain.specs.declared.findings.Fault.TheVariants.{Syntax, Check}
use Rattle.explain.specs.declared.remark.Remark.{Remark}
use Rattle.explain.specs.declared.remark.Severity.TheVariants.{Error}

-- the text is no other program
abbrev pub IsOnlyProgram : List ℕ → Marked → Type 0
IsOnlyProgram bytes program = (other : Marked) → IsProgramText bytes other → program ≡ other

-- the text is no program, and this is its first fault
pub record IsSyntaxFault (bytes : List ℕ) (fault : SyntaxFault) : Type 0 where
  pub first : FirstFault (lexemes_of bytes) fault
  pub none : (program : Marked) → IsProgramText bytes program → ⊥

-- the text is a program and no other, and this is the first fault of the program
pub record IsCheckFault (bytes : List ℕ) (fault : CheckFault) : Type 0 where
  pub program : Marked
  pub is_read : IsProgramText bytes program
  pub only : IsOnlyProgram bytes program
  pub first : IsFirstFault program fault

-- the text is a program and no other, and the program has no fault
pub record IsFaultless (bytes : List ℕ) : Type 0 where
  pub program : Marked
  pub is_read : IsProgramText bytes program
  pub only : IsOnlyProgram bytes program
  pub checked : IsChecked program

-- the first fault of a text, or that it has none
abbrev pub IsFound : List ℕ → Option Fault → Type 0
IsFound bytes None = IsFaultless bytes
IsFound bytes (Some (Syntax fault)) = IsSyntaxFault bytes fault
IsFound bytes (Some (Check fault)) = IsCheckFault bytes fault

abbrev pub place_of : Fault → ℕ
place_of (Syntax fault) = fault.at
place_of (Check fault) = fault.at

-- where there is a fault, the first remark is on it
abbrev pub IsShownFirst : Option Fault → List Remark → Type 0
IsShownFirst None remarks = Unit {0}
IsShownFirst (Some fault) [] = ⊥
IsShownFirst (Some fault) (remark ∷ remarks) = (remark.at ≡ place_of fault) × (remark.severity ≡ Error)
