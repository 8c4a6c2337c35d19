-- The faults of a text, apart from how it is read.
use Rattle.std.specs.Prelude.{◌≡◌, ℕ, ◌≤◌, ◌<◌, true, false, List, [], ◌∷◌, ◌++◌}
use Rattle.asp_model.specs.declared.limits.TheConstants.{MOST_LEVEL}
use Rattle.syntax_tokens.specs.declared.token.Token.TheVariants as tokens
use Rattle.asp_syntax.specs.declared.error.SyntaxKind.{SyntaxKind}
use Rattle.asp_syntax.specs.declared.error.SyntaxKind.TheVariants.{BadByte, BadNumber, Unexpected, TooDeep, NotAField}
use Rattle.asp_syntax.specs.declared.error.SyntaxFault.{SyntaxFault}
use Rattle.syntax_tokens.specs.Tokens.{Lexeme}
use Rattle.syntax_grammar.specs.Grammar.{Begins}
use Rattle.syntax_tokens.specs.Levels.{level_after}

-- of two faults at one place that with the lesser number is answered
abbrev pub number_of : SyntaxKind → ℕ
number_of BadByte = 1
number_of BadNumber = 2
number_of Unexpected = 3
number_of TooDeep = 4
number_of NotAField = 5

-- a fault of a kind stands at a lexeme, behind others; `true` asks for the rule on `:=`
abbrev pub IsFault : SyntaxKind → List Lexeme → Lexeme → Type 0
IsFault BadByte before here = here.token ≡ tokens.BadByte
IsFault BadNumber before here = here.token ≡ tokens.BadNumber
IsFault Unexpected before here = Begins false before × (Begins false (before ++ here ∷ []) → ⊥)
IsFault TooDeep before here = (level_after before < level_after (before ++ here ∷ [])) × (MOST_LEVEL < level_after (before ++ here ∷ []))
IsFault NotAField before here = (here.token ≡ tokens.Assign) × Begins true before
    × Begins false (before ++ here ∷ []) × (Begins true (before ++ here ∷ []) → ⊥)

-- no fault stands at any of the lexemes
pub data Clean : List Lexeme → Type 0 where
  nowhere : Clean []
  nor_here : (before : List Lexeme) (here : Lexeme) → Clean before → ((kind : SyntaxKind) → IsFault kind before here → ⊥)
      → Clean (before ++ here ∷ [])

-- the fault at the first lexeme that has one, and of several there that with the least number
pub record FirstFault (ls : List Lexeme) (f : SyntaxFault) : Type 0 where
  pub before : List Lexeme
  pub here : Lexeme
  pub behind : List Lexeme
  pub whole : ls ≡ before ++ here ∷ behind
  pub clean : Clean before
  pub place : f.at ≡ here.at
  pub is : IsFault f.kind before here
  pub least : (kind : SyntaxKind) → IsFault kind before here → number_of f.kind ≤ number_of kind
