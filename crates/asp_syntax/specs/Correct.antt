-- What the public contract says.
pub use Rattle.syntax_grammar.specs.Programs.{IsProgramText}
use Rattle.std.specs.Prelude.{◌≡◌, Result, Ok, Err}
use Rattle.asp_model.specs.declared.term.Program.{Program}
use Rattle.asp_model.specs.Marked.{Marked}
use Rattle.asp_model.specs.Shapes.{marked_of}
use Rattle.asp_syntax.specs.declared.error.SyntaxFault.{SyntaxFault}
use Rattle.asp_syntax.specs.declared.error.SyntaxError.{SyntaxError}
use Rattle.asp_syntax.specs.declared.error.SyntaxError.TheVariants.{Fault, Memory}

abbrev pub IfFault : Result Program SyntaxError → (SyntaxFault → Type 0) → Type 0
IfFault (Err (Fault f)) P = P f
IfFault _ P = Unit {0}

-- this program, unless memory ran out
abbrev pub IsOkWith : Result Program SyntaxError → Marked → Type 0
IsOkWith (Ok p) program = marked_of p.root ≡ program
IsOkWith (Err (Fault f)) program = ⊥
IsOkWith (Err Memory) program = Unit {0}
