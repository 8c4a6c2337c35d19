-- What the public contract says.
use Rattle.std.specs.Prelude.{◌≡◌, ℕ, List}
use Rattle.asp_model.specs.Marked.{Marked}
use Rattle.syntax_grammar.specs.Programs.{IsProgramText}
use Rattle.asp_print.specs.Places.{unplaced}

-- the bytes are a program text, and its program is this one, places aside
pub record IsTextOf (program : Marked) (bytes : List ℕ) : Type 0 where
  pub read : Marked
  pub is : IsProgramText bytes read
  pub same : unplaced read ≡ unplaced program

-- if some bytes are a text of the program, then this text is one too
abbrev pub IsPrintOf : Marked → List ℕ → Type 0
IsPrintOf program text = (bytes : List ℕ) → IsTextOf program bytes → IsTextOf program text
