-- What the functions inside write.
use Rattle.std.specs.Prelude.{◌≡◌, ℕ, List, [], ◌∷◌, ◌++◌, map, Option, Some, None, string_bytes}
use Rattle.std.specs.declared.alloc.Global.{Global}
use Rattle.std.specs.declared.string.String.{String}
use Rattle.std.specs.Option.{option_map}
use Rattle.std.specs.List.{flat_map}
use Rattle.asp_model.specs.declared.word.Label.{Label}
use Rattle.asp_model.specs.declared.term.Term.{Term}
use Rattle.asp_model.specs.declared.term.Method.{Method}
use Rattle.asp_model.specs.Names.{Text}
use Rattle.asp_model.specs.Term.{MethodHead}
use Rattle.asp_model.specs.Marked.{Marked}
use Rattle.asp_model.specs.Shapes.{MarkedMethod, marked_of}
use Rattle.syntax_tokens.specs.declared.token.Token.{Token}
use Rattle.syntax_tokens.specs.declared.token.Token.TheVariants as tokens
use Rattle.syntax_tokens.specs.Texts.{token_text}
use Rattle.asp_print.specs.declared.text.Point.{Point}
use Rattle.asp_print.specs.declared.text.Point.TheVariants as points
use Rattle.asp_print.specs.Tokens.{between, head_tokens, method_part, tokens_of}

-- a word and a blank
abbrev pub with_blank : List ℕ → List ℕ
with_blank word = word ++ 32 ∷ []

-- tokens, with a blank behind each
abbrev pub written : List Token → List ℕ
written ts = flat_map (λ t. with_blank (token_text t)) ts

-- a text grew by these tokens
abbrev pub Writes : String Global → List Token → String Global → Type 0
Writes old ts new = string_bytes new ≡ string_bytes old ++ written ts

abbrev pub point_token : Point → Token
point_token points.Open = tokens.Open
point_token points.Close = tokens.Close
point_token points.Comma = tokens.Comma
point_token points.Semicolon = tokens.Semicolon

abbrev pub lead_tokens : Option Point → List Token
lead_tokens None = []
lead_tokens (Some point) = point_token point ∷ []

-- a word before a term in parentheses
abbrev pub word_bytes : List ℕ → List Token → List ℕ
word_bytes word ts = with_blank word ++ written (tokens.Open ∷ (ts ++ tokens.Close ∷ []))

abbrev pub term_tokens : Term → List Token
term_tokens t = tokens_of (marked_of t)

abbrev pub name_piece : Text → List Token
name_piece x = tokens.Name x ∷ []

abbrev pub label_piece : Label → List Token
label_piece l = tokens.Name l.text ∷ []

-- the label that an activity begins with
abbrev pub label_text : Option Label → Option Text
label_text = option_map (λ l. l.text)

abbrev pub head_of : Method → MethodHead
head_of m = record { label = m.label.text; slf = m.slf; parameters = m.parameters.items }

-- a field, and a method, as they are in code
abbrev pub field_piece : Label × Term → List Token
field_piece f = tokens.Name f.0.text ∷ tokens.Equals ∷ term_tokens f.1

abbrev pub method_piece : Method → List Token
method_piece m = head_tokens (head_of m) ++ tokens.Equals ∷ term_tokens m.body

abbrev pub object_pieces : List (Label × Term) → List Method → List Token
object_pieces fields methods =
    tokens.SquareOpen ∷ (between tokens.Comma (map field_piece fields) ++ (method_part (map method_piece methods) ++ tokens.SquareClose ∷ []))

abbrev pub field_tokens : Text × Marked → List Token
field_tokens f = tokens.Name f.0 ∷ tokens.Equals ∷ tokens_of f.1

abbrev pub method_tokens : MarkedMethod → List Token
method_tokens m = head_tokens m.head ++ tokens.Equals ∷ tokens_of m.body

-- an object without parentheses round it
abbrev pub object_tokens : List (Text × Marked) → List MarkedMethod → List Token
object_tokens fields methods =
    tokens.SquareOpen ∷ (between tokens.Comma (map field_tokens fields) ++ (method_part (map method_tokens methods) ++ tokens.SquareClose ∷ []))
