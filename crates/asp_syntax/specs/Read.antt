-- Reading a list of lexemes, up to the first fault.
use Rattle.std.specs.Prelude.{ℕ, nat_lt, Bool, true, false, List, [], ◌∷◌, Option, Some, None, Result, Ok, Err}
use Rattle.asp_model.specs.declared.limits.TheConstants.{MOST_LEVEL}
use Rattle.asp_model.specs.Marked.{Marked}
use Rattle.syntax_tokens.specs.declared.token.Token.{Token}
use Rattle.syntax_tokens.specs.declared.token.Token.TheVariants as tokens
use Rattle.asp_syntax.specs.declared.error.SyntaxKind.{SyntaxKind}
use Rattle.asp_syntax.specs.declared.error.SyntaxKind.TheVariants.{BadByte, BadNumber, Unexpected, TooDeep, NotAField}
use Rattle.asp_syntax.specs.declared.error.SyntaxFault.{SyntaxFault}
use Rattle.syntax_tokens.specs.Tokens.{Lexeme}
use Rattle.syntax_grammar.specs.States.{StateShape, At, Done}
use Rattle.syntax_grammar.specs.Machine.{step, start}
use Rattle.syntax_tokens.specs.Levels.{WalkShape, walked, flat}

abbrev pub field : Option StateShape → Option SyntaxKind
field None = Some NotAField
field (Some y) = None

abbrev pub depth : Bool → Option StateShape → Option SyntaxKind
depth true z = Some TooDeep
depth false z = field z

-- of a token, from what it leaves without the rule on `:=`, whether it is too deep, and what it
-- leaves with the rule
abbrev pub judged : Option StateShape → Bool → Option StateShape → Option SyntaxKind
judged None deep z = Some Unexpected
judged (Some y) deep z = depth deep z

abbrev pub bad : Token → Option SyntaxKind → Option SyntaxKind
bad tokens.BadByte v = Some BadByte
bad tokens.BadNumber v = Some BadNumber
bad t v = v

-- the fault at a lexeme, in a state
abbrev pub verdict : StateShape → WalkShape → Lexeme → Option SyntaxKind
verdict x w l = bad l.token (judged (step false x l) (nat_lt MOST_LEVEL (walked w l.token).level) (step true x l))

abbrev pub fault_at : ℕ → SyntaxKind → SyntaxFault
fault_at at kind = record { at = at; kind = kind }

abbrev pub onto : ℕ → Option SyntaxKind → Option StateShape → (StateShape → Result Marked SyntaxFault) → Result Marked SyntaxFault
onto at (Some kind) z go = Err (fault_at at kind)
onto at None None go = Err (fault_at at Unexpected)
onto at None (Some (Done t)) go = Ok t
onto at None (Some (At m s outer)) go = go (At m s outer)

abbrev pub read : StateShape → WalkShape → List Lexeme → Result Marked SyntaxFault
read x w [] = Err (fault_at 0 Unexpected)
read x w (l ∷ ls) = onto l.at (verdict x w l) (step true x l) (λ y. read y (walked w l.token) ls)

abbrev pub read_all : List Lexeme → Result Marked SyntaxFault
read_all ls = read start flat ls
