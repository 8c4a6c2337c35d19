-- The bytes that are a program.
use Rattle.std.specs.Prelude.{◌≡◌, ℕ, ◌≤◌, true, List, ◌++◌}
use Rattle.asp_model.specs.declared.limits.TheConstants.{MOST_LEVEL}
use Rattle.asp_model.specs.Marked.{Marked}
use Rattle.syntax_tokens.specs.Tokens.{Lexeme, lexemes_of}
use Rattle.syntax_tokens.specs.Levels.{level_after}
use Rattle.syntax_grammar.specs.Grammar.{IsProgram}

-- the bytes are a program of the grammar with its rule on `:=`, in which no token reaches a level above 200
pub record IsProgramText (bytes : List ℕ) (program : Marked) : Type 0 where
  pub is : IsProgram true (lexemes_of bytes) program
  pub low : (before behind : List Lexeme) → lexemes_of bytes ≡ before ++ behind → level_after before ≤ MOST_LEVEL
