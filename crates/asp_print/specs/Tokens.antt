-- The tokens of a program as it was read, with the parentheses that its marks count.
use Rattle.std.specs.Prelude.{ℕ, zero, suc, List, [], ◌∷◌, ◌++◌, map, Option, Some, None}
use Rattle.asp_model.specs.Names.{Text}
use Rattle.asp_model.specs.Term as term
use Rattle.asp_model.specs.Term.{Head, SignShape, MethodHead}
use Rattle.asp_model.specs.Marked.{MarkShape, Marked, MarkedList, marked, no_marked, and_marked}
use Rattle.syntax_tokens.specs.declared.token.Token.{Token}
use Rattle.syntax_tokens.specs.declared.token.Token.TheVariants as tokens

-- in so many pairs of parentheses
abbrev pub enclosed : ℕ → List Token → List Token
enclosed zero ts = ts
enclosed (suc n) ts = tokens.Open ∷ (enclosed n ts ++ tokens.Close ∷ [])

-- pieces, with a token before each
abbrev pub behind_each : Token → List (List Token) → List Token
behind_each sign [] = []
behind_each sign (p ∷ ps) = sign ∷ (p ++ behind_each sign ps)

-- pieces with a token between two, and these tokens before the first
abbrev pub led_by : List Token → Token → List (List Token) → List Token
led_by ts sign [] = []
led_by ts sign (p ∷ ps) = ts ++ (p ++ behind_each sign ps)

-- pieces with a token between two
abbrev pub between : Token → List (List Token) → List Token
between sign ps = led_by [] sign ps

abbrev pub first : List (List Token) → List Token
first [] = []
first (p ∷ ps) = p

abbrev pub others : List (List Token) → List (List Token)
others [] = []
others (p ∷ ps) = ps

abbrev pub sign_of : SignShape → Token
sign_of term.Add = tokens.Plus
sign_of term.Subtract = tokens.Minus
sign_of term.Multiply = tokens.Star
sign_of term.Divide = tokens.Slash
sign_of term.Remainder = tokens.Percent
sign_of term.Less = tokens.Less
sign_of term.Equal = tokens.Same

abbrev pub name_pieces : List Text → List (List Token)
name_pieces xs = map (λ x. tokens.Name x ∷ []) xs

abbrev pub service_tokens : Option Text → List Token
service_tokens None = []
service_tokens (Some label) = tokens.Comma ∷ tokens.Name label ∷ []

abbrev pub head_tokens : MethodHead → List Token
head_tokens h = tokens.Name h.label ∷ tokens.Open ∷ tokens.Name h.slf ∷ (behind_each tokens.Comma (name_pieces h.parameters) ++ tokens.Close ∷ [])

-- fields with what stands behind their `=`, the first pieces
abbrev pub field_pieces : List Text → List (List Token) → List (List Token)
field_pieces [] ps = []
field_pieces (x ∷ xs) ps = (tokens.Name x ∷ tokens.Equals ∷ first ps) ∷ field_pieces xs (others ps)

-- the pieces behind those of fields
abbrev pub behind_fields : List Text → List (List Token) → List (List Token)
behind_fields [] ps = ps
behind_fields (x ∷ xs) ps = behind_fields xs (others ps)

abbrev pub method_pieces : List MethodHead → List (List Token) → List (List Token)
method_pieces [] ps = []
method_pieces (h ∷ hs) ps = (head_tokens h ++ tokens.Equals ∷ first ps) ∷ method_pieces hs (others ps)

-- methods, with a `;` before them where there are any
abbrev pub method_part : List (List Token) → List Token
method_part ps = led_by (tokens.Semicolon ∷ []) tokens.Comma ps

-- a word before pieces in parentheses
abbrev pub word_tokens : Token → List Token → List Token
word_tokens word ts = word ∷ tokens.Open ∷ (ts ++ tokens.Close ∷ [])

abbrev pub choice_tokens : List Token → List Token → List Token → List Token
choice_tokens cs ts es =
    tokens.If ∷ tokens.Open ∷ (cs ++ tokens.Close ∷ tokens.BraceOpen ∷ (ts
    ++ tokens.BraceClose ∷ tokens.Else ∷ tokens.BraceOpen ∷ (es ++ tokens.BraceClose ∷ [])))

abbrev pub access_tokens : Text → List Token → List Token
access_tokens label ts = ts ++ tokens.Dot ∷ tokens.Name label ∷ []

abbrev pub call_tokens : Text → List Token → List Token → List Token
call_tokens label ts arguments = ts ++ tokens.Dot ∷ tokens.Name label ∷ tokens.Open ∷ (arguments ++ tokens.Close ∷ [])

abbrev pub let_tokens : Text → List Token → List Token → List Token
let_tokens x ts body = tokens.Let ∷ tokens.Name x ∷ tokens.Equals ∷ (ts ++ tokens.In ∷ body)

abbrev pub scatter_tokens : List Token → Text → List Token → List Token
scatter_tokens ts label us = word_tokens tokens.Scatter (ts ++ tokens.Comma ∷ tokens.Name label ∷ tokens.Comma ∷ us)

-- a node round the tokens of the terms below it, with so many pairs of parentheses on the left of its `:=`
abbrev pub laid : Head → ℕ → List (List Token) → List Token
laid (term.Var x) left ps = tokens.Name x ∷ []
laid (term.Number n) left ps = tokens.Number n ∷ []
laid (term.Make fields methods) left ps =
    tokens.SquareOpen ∷ (between tokens.Comma (field_pieces fields ps)
    ++ (method_part (method_pieces methods (behind_fields fields ps)) ++ tokens.SquareClose ∷ []))
laid (term.Get label) left ps = access_tokens label (first ps)
laid (term.Put label) left ps = enclosed left (access_tokens label (first ps)) ++ tokens.Assign ∷ first (others ps)
laid (term.Call label) left ps = call_tokens label (first ps) (between tokens.Comma (others ps))
laid term.Clone left ps = word_tokens tokens.Clone (first ps)
laid (term.Active service) left ps = word_tokens tokens.Active (first ps ++ service_tokens service)
laid (term.Serve labels) left ps = word_tokens tokens.Serve (between tokens.Comma (name_pieces labels))
laid (term.Let x) left ps = let_tokens x (first ps) (first (others ps))
laid term.Steps left ps = between tokens.Semicolon ps
laid term.If left ps = choice_tokens (first ps) (first (others ps)) (first (others (others ps)))
laid term.Repeat left ps = word_tokens tokens.Repeat (first ps)
laid (term.Operate sign) left ps = first ps ++ sign_of sign ∷ first (others ps)
laid term.Print left ps = word_tokens tokens.Print (first ps)
laid (term.Echo text) left ps = word_tokens tokens.Echo (tokens.Text text ∷ [])
laid term.Group left ps = word_tokens tokens.Group (between tokens.Comma ps)
laid (term.Scatter label) left ps = scatter_tokens (first ps) label (first (others ps))
laid term.Size left ps = word_tokens tokens.Size (first ps)
laid term.Member left ps = word_tokens tokens.Member (first ps ++ tokens.Comma ∷ first (others ps))
laid term.WaitAll left ps = word_tokens tokens.WaitAll (first ps)
laid (term.Pending labels) left ps = word_tokens tokens.Pending (between tokens.Comma (name_pieces labels))
-- what no program has
laid h left ps = []

abbrev mutual
  pub tokens_of : Marked → List Token
  tokens_of (marked h m ts) = enclosed m.parentheses (laid h m.left (pieces_of ts))

  pub pieces_of : MarkedList → List (List Token)
  pieces_of no_marked = []
  pieces_of (and_marked t ts) = tokens_of t ∷ pieces_of ts

abbrev pub mark_of : Marked → MarkShape
mark_of (marked h m ts) = m

-- the node without the parentheses round it
abbrev pub node_tokens : Marked → List Token
node_tokens (marked h m ts) = laid h m.left (pieces_of ts)
