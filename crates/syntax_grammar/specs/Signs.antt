-- The parts of the grammar that hold no term: signs, words, and names.
use Rattle.std.specs.Prelude.{ℕ, Bool, true, false, List, [], ◌∷◌, ◌++◌, Option, Some, None}
use Rattle.asp_model.specs.Names.{Text}
use Rattle.asp_model.specs.Term.{Head, SignShape, MethodHead}
use Rattle.asp_model.specs.Term as term
use Rattle.syntax_tokens.specs.declared.token.Token.{Token}
use Rattle.syntax_tokens.specs.declared.token.Token.TheVariants as tokens
use Rattle.syntax_tokens.specs.Tokens.{Lexeme, lexeme}
use Rattle.syntax_grammar.specs.Nodes.{with_parameter}

-- "*", "/" or "%"
pub data IsProductSign : Token → SignShape → Type 0 where
  multiplies : IsProductSign tokens.Star term.Multiply
  divides : IsProductSign tokens.Slash term.Divide
  leaves : IsProductSign tokens.Percent term.Remainder

-- "+" or "-"
pub data IsSumSign : Token → SignShape → Type 0 where
  adds : IsSumSign tokens.Plus term.Add
  subtracts : IsSumSign tokens.Minus term.Subtract

-- "<" or "=="
pub data IsTestSign : Token → SignShape → Type 0 where
  is_less : IsTestSign tokens.Less term.Less
  is_same : IsTestSign tokens.Same term.Equal

-- a word before one term in parentheses
pub data IsWord : Token → Head → Type 0 where
  clones : IsWord tokens.Clone term.Clone
  repeats : IsWord tokens.Repeat term.Repeat
  prints : IsWord tokens.Print term.Print
  sizes : IsWord tokens.Size term.Size
  awaits : IsWord tokens.WaitAll term.WaitAll

-- a word before labels in parentheses, and whether it polls
pub data IsLabelWord : Token → Bool → Type 0 where
  is_serve : IsLabelWord tokens.Serve false
  is_pending : IsLabelWord tokens.Pending true

-- NAME "(" NAME { "," NAME }, with the places of the names
pub data IsHead : List Lexeme → List ℕ → MethodHead → Type 0 where
  head : (at open_at slf_at : ℕ) (label slf : Text)
      → IsHead (lexeme (tokens.Name label) at ∷ lexeme tokens.Open open_at ∷ lexeme (tokens.Name slf) slf_at ∷ [])
      (at ∷ slf_at ∷ []) (record { label = label; slf = slf; parameters = [] })
  parameter : (ls : List Lexeme) (ns : List ℕ) (h : MethodHead) (comma_at at : ℕ) (x : Text) → IsHead ls ns h
      → IsHead (ls ++ lexeme tokens.Comma comma_at ∷ lexeme (tokens.Name x) at ∷ []) (ns ++ at ∷ []) (with_parameter h x)

-- [ "," NAME ], with the name's place
pub data IsService : List Lexeme → List ℕ → Option Text → Type 0 where
  no_service : IsService [] [] None
  service : (comma_at at : ℕ) (label : Text) → IsService (lexeme tokens.Comma comma_at ∷ lexeme (tokens.Name label) at ∷ []) (at ∷ []) (Some label)

-- NAME { "," NAME }, with the places of the names
pub data IsLabels : List Lexeme → List ℕ → List Text → Type 0 where
  first_label : (at : ℕ) (label : Text) → IsLabels (lexeme (tokens.Name label) at ∷ []) (at ∷ []) (label ∷ [])
  and_label : (ls : List Lexeme) (ns : List ℕ) (labels : List Text) (comma_at at : ℕ) (label : Text) → IsLabels ls ns labels
      → IsLabels (ls ++ lexeme tokens.Comma comma_at ∷ lexeme (tokens.Name label) at ∷ []) (ns ++ at ∷ []) (labels ++ label ∷ [])

-- [ Labels ]
pub data IsLabelPart : List Lexeme → List ℕ → List Text → Type 0 where
  no_labels : IsLabelPart [] [] []
  labels : (ls : List Lexeme) (ns : List ℕ) (xs : List Text) → IsLabels ls ns xs → IsLabelPart ls ns xs
