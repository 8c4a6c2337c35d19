-- The grammar: which lexemes are which program, with the marks that its nodes get. The rule on `:=` is
-- that a field access stands on its left; `true` asks for it.
use Rattle.std.specs.Prelude.{◌≡◌, ℕ, ℤ, Bool, true, false, List, [], ◌∷◌, ◌++◌, Option}
use Rattle.asp_model.specs.Names.{Text}
use Rattle.asp_model.specs.Term.{Head, SignShape, MethodHead}
use Rattle.asp_model.specs.Marked.{Marked}
use Rattle.asp_model.specs.Shapes.{MarkedMethod}
use Rattle.syntax_tokens.specs.declared.token.Token.{Token}
use Rattle.syntax_tokens.specs.declared.token.Token.TheVariants as tokens
use Rattle.syntax_tokens.specs.Tokens.{Lexeme, lexeme}
use Rattle.syntax_grammar.specs.Nodes.{PartShape, part, number_at, variable_at, echo_at, word_at, active_at, if_at, let_at, group_at, scatter_at, member_at, operated, got, called, put, is_get, terms_at, in_parentheses, made, served, method}
use Rattle.syntax_grammar.specs.Signs.{IsProductSign, IsSumSign, IsTestSign, IsWord, IsLabelWord, IsHead, IsService, IsLabelPart}

-- whether a term may stand on the left of `:=`: under the rule a field access alone
abbrev pub may_put : Bool → Marked → Bool
may_put false t = true
may_put true t = is_get t

mutual
  -- an operand without what follows a dot
  pub data IsPrim : Bool → List Lexeme → PartShape → Type 0 where
    number : (s : Bool) (at : ℕ) (n : ℤ) → IsPrim s (lexeme (tokens.Number n) at ∷ []) (part at (number_at at n))
    variable : (s : Bool) (at : ℕ) (x : Text) → IsPrim s (lexeme (tokens.Name x) at ∷ []) (part at (variable_at at x))
    parentheses : (s : Bool) (at close_at : ℕ) (ls : List Lexeme) (n : ℕ) (ts : List Marked) → IsSeq s ls n ts
        → IsPrim s (lexeme tokens.Open at ∷ (ls ++ lexeme tokens.Close close_at ∷ [])) (part at (in_parentheses (terms_at n ts)))
    object : (s : Bool) (at close_at : ℕ) (ls us : List Lexeme) (ns ms : List ℕ) (fields : List (Text × Marked)) (methods : List MarkedMethod)
        → IsFieldPart s ls ns fields → IsMethodPart s us ms methods
        → IsPrim s (lexeme tokens.SquareOpen at ∷ (ls ++ (us ++ lexeme tokens.SquareClose close_at ∷ []))) (made (record { at = at; names = ns ++ ms; fields = fields; methods = methods }))
    word : (s : Bool) (token : Token) (head : Head) (at open_at close_at : ℕ) (ls : List Lexeme) (n : ℕ) (ts : List Marked) → IsWord token head → IsSeq s ls n ts
        → IsPrim s (lexeme token at ∷ lexeme tokens.Open open_at ∷ (ls ++ lexeme tokens.Close close_at ∷ [])) (part at (word_at head at (terms_at n ts)))
    active : (s : Bool) (at open_at close_at : ℕ) (ls us : List Lexeme) (n : ℕ) (ts : List Marked) (ns : List ℕ) (label : Option Text) → IsSeq s ls n ts → IsService us ns label
        → IsPrim s (lexeme tokens.Active at ∷ lexeme tokens.Open open_at ∷ (ls ++ (us ++ lexeme tokens.Close close_at ∷ []))) (part at (active_at at ns label (terms_at n ts)))
    serve : (s : Bool) (token : Token) (polls : Bool) (at open_at close_at : ℕ) (ls : List Lexeme) (ns : List ℕ) (labels : List Text) → IsLabelWord token polls → IsLabelPart ls ns labels
        → IsPrim s (lexeme token at ∷ lexeme tokens.Open open_at ∷ (ls ++ lexeme tokens.Close close_at ∷ [])) (served (record { at = at; polls = polls; names = ns; labels = labels }))
    choice : (s : Bool) (at open_at close_at then_open then_close else_at else_open else_close : ℕ) (ls us vs : List Lexeme) (n m k : ℕ) (cs ts es : List Marked)
        → IsSeq s ls n cs → IsSeq s us m ts → IsSeq s vs k es
        → IsPrim s (lexeme tokens.If at ∷ lexeme tokens.Open open_at ∷ (ls ++ lexeme tokens.Close close_at ∷ lexeme tokens.BraceOpen then_open
        ∷ (us ++ lexeme tokens.BraceClose then_close ∷ lexeme tokens.Else else_at ∷ lexeme tokens.BraceOpen else_open ∷ (vs ++ lexeme tokens.BraceClose else_close ∷ []))))
        (part at (if_at at (terms_at n cs) (terms_at m ts) (terms_at k es)))
    echo : (s : Bool) (at open_at text_at close_at : ℕ) (text : Text)
        → IsPrim s (lexeme tokens.Echo at ∷ lexeme tokens.Open open_at ∷ lexeme (tokens.Text text) text_at ∷ lexeme tokens.Close close_at ∷ []) (part at (echo_at at text))
    group_none : (s : Bool) (at open_at close_at : ℕ)
        → IsPrim s (lexeme tokens.Group at ∷ lexeme tokens.Open open_at ∷ lexeme tokens.Close close_at ∷ []) (part at (group_at at []))
    group : (s : Bool) (at open_at close_at : ℕ) (ls : List Lexeme) (ts : List Marked) → IsArgs s ls ts
        → IsPrim s (lexeme tokens.Group at ∷ lexeme tokens.Open open_at ∷ (ls ++ lexeme tokens.Close close_at ∷ [])) (part at (group_at at ts))
    scatter : (s : Bool) (at open_at comma_at label_at second_at close_at : ℕ) (label : Text) (ls us : List Lexeme) (n m : ℕ) (ts xs : List Marked)
        → IsSeq s ls n ts → IsSeq s us m xs
        → IsPrim s (lexeme tokens.Scatter at ∷ lexeme tokens.Open open_at ∷ (ls ++ lexeme tokens.Comma comma_at ∷ lexeme (tokens.Name label) label_at ∷ lexeme tokens.Comma second_at
        ∷ (us ++ lexeme tokens.Close close_at ∷ [])))
        (part at (scatter_at at label_at label (terms_at n ts) (terms_at m xs)))
    member : (s : Bool) (at open_at comma_at close_at : ℕ) (ls us : List Lexeme) (n m : ℕ) (ts xs : List Marked) → IsSeq s ls n ts → IsSeq s us m xs
        → IsPrim s (lexeme tokens.Member at ∷ lexeme tokens.Open open_at ∷ (ls ++ lexeme tokens.Comma comma_at ∷ (us ++ lexeme tokens.Close close_at ∷ [])))
        (part at (member_at at (terms_at n ts) (terms_at m xs)))

  -- an operand
  pub data IsPost : Bool → List Lexeme → PartShape → Type 0 where
    prim : (s : Bool) (ls : List Lexeme) (p : PartShape) → IsPrim s ls p → IsPost s ls p
    get : (s : Bool) (ls : List Lexeme) (p : PartShape) (dot_at at : ℕ) (label : Text) → IsPost s ls p
        → IsPost s (ls ++ lexeme tokens.Dot dot_at ∷ lexeme (tokens.Name label) at ∷ []) (got p at label)
    call_none : (s : Bool) (ls : List Lexeme) (p : PartShape) (dot_at at open_at close_at : ℕ) (label : Text) → IsPost s ls p
        → IsPost s (ls ++ lexeme tokens.Dot dot_at ∷ lexeme (tokens.Name label) at ∷ lexeme tokens.Open open_at ∷ lexeme tokens.Close close_at ∷ []) (called p at label [])
    call : (s : Bool) (ls us : List Lexeme) (p : PartShape) (dot_at at open_at close_at : ℕ) (label : Text) (ts : List Marked) → IsPost s ls p → IsArgs s us ts
        → IsPost s (ls ++ lexeme tokens.Dot dot_at ∷ lexeme (tokens.Name label) at ∷ lexeme tokens.Open open_at ∷ (us ++ lexeme tokens.Close close_at ∷ [])) (called p at label ts)

  -- Seq { "," Seq }
  pub data IsArgs : Bool → List Lexeme → List Marked → Type 0 where
    argument : (s : Bool) (ls : List Lexeme) (n : ℕ) (ts : List Marked) → IsSeq s ls n ts → IsArgs s ls (terms_at n ts ∷ [])
    and_argument : (s : Bool) (ls us : List Lexeme) (comma_at : ℕ) (xs : List Marked) (n : ℕ) (ts : List Marked) → IsArgs s ls xs → IsSeq s us n ts
        → IsArgs s (ls ++ lexeme tokens.Comma comma_at ∷ us) (xs ++ terms_at n ts ∷ [])

  -- NAME "=" Expr { "," NAME "=" Expr }, with the places of the names
  pub data IsFields : Bool → List Lexeme → List ℕ → List (Text × Marked) → Type 0 where
    field : (s : Bool) (ls : List Lexeme) (at equals_at : ℕ) (label : Text) (p : PartShape) → IsExpr s ls p
        → IsFields s (lexeme (tokens.Name label) at ∷ lexeme tokens.Equals equals_at ∷ ls) (at ∷ []) ((label, p.term) ∷ [])
    and_field : (s : Bool) (ls us : List Lexeme) (ns : List ℕ) (fields : List (Text × Marked)) (comma_at at equals_at : ℕ) (label : Text) (p : PartShape)
        → IsFields s ls ns fields → IsExpr s us p
        → IsFields s (ls ++ lexeme tokens.Comma comma_at ∷ lexeme (tokens.Name label) at ∷ lexeme tokens.Equals equals_at ∷ us) (ns ++ at ∷ []) (fields ++ (label, p.term) ∷ [])

  -- Method { "," Method }
  pub data IsMethods : Bool → List Lexeme → List ℕ → List MarkedMethod → Type 0 where
    first_method : (s : Bool) (ls us : List Lexeme) (ns : List ℕ) (h : MethodHead) (close_at equals_at n : ℕ) (ts : List Marked) → IsHead ls ns h → IsSeq s us n ts
        → IsMethods s (ls ++ lexeme tokens.Close close_at ∷ lexeme tokens.Equals equals_at ∷ us) ns (method h (terms_at n ts) ∷ [])
    and_method : (s : Bool) (ws ls us : List Lexeme) (ms ns : List ℕ) (methods : List MarkedMethod) (h : MethodHead) (comma_at close_at equals_at n : ℕ) (ts : List Marked)
        → IsMethods s ws ms methods → IsHead ls ns h → IsSeq s us n ts
        → IsMethods s (ws ++ lexeme tokens.Comma comma_at ∷ (ls ++ lexeme tokens.Close close_at ∷ lexeme tokens.Equals equals_at ∷ us)) (ms ++ ns) (methods ++ method h (terms_at n ts) ∷ [])

  -- [ Fields ]
  pub data IsFieldPart : Bool → List Lexeme → List ℕ → List (Text × Marked) → Type 0 where
    no_fields : (s : Bool) → IsFieldPart s [] [] []
    fields : (s : Bool) (ls : List Lexeme) (ns : List ℕ) (xs : List (Text × Marked)) → IsFields s ls ns xs → IsFieldPart s ls ns xs

  -- [ ";" Methods ]
  pub data IsMethodPart : Bool → List Lexeme → List ℕ → List MarkedMethod → Type 0 where
    no_methods : (s : Bool) → IsMethodPart s [] [] []
    methods : (s : Bool) (ls : List Lexeme) (ns : List ℕ) (xs : List MarkedMethod) (at : ℕ) → IsMethods s ls ns xs
        → IsMethodPart s (lexeme tokens.Semicolon at ∷ ls) ns xs

  -- Post { ("*" | "/" | "%") Post }
  pub data IsProd : Bool → List Lexeme → PartShape → Type 0 where
    post : (s : Bool) (ls : List Lexeme) (p : PartShape) → IsPost s ls p → IsProd s ls p
    times : (s : Bool) (token : Token) (sign : SignShape) (at : ℕ) (ls us : List Lexeme) (p q : PartShape) → IsProductSign token sign → IsProd s ls p → IsPost s us q
        → IsProd s (ls ++ lexeme token at ∷ us) (operated sign p q)

  -- Prod { ("+" | "-") Prod }
  pub data IsSum : Bool → List Lexeme → PartShape → Type 0 where
    prod : (s : Bool) (ls : List Lexeme) (p : PartShape) → IsProd s ls p → IsSum s ls p
    plus : (s : Bool) (token : Token) (sign : SignShape) (at : ℕ) (ls us : List Lexeme) (p q : PartShape) → IsSumSign token sign → IsSum s ls p → IsProd s us q
        → IsSum s (ls ++ lexeme token at ∷ us) (operated sign p q)

  -- Sum [ ("<" | "==") Sum ]
  pub data IsTest : Bool → List Lexeme → PartShape → Type 0 where
    sum : (s : Bool) (ls : List Lexeme) (p : PartShape) → IsSum s ls p → IsTest s ls p
    test : (s : Bool) (token : Token) (sign : SignShape) (at : ℕ) (ls us : List Lexeme) (p q : PartShape) → IsTestSign token sign → IsSum s ls p → IsSum s us q
        → IsTest s (ls ++ lexeme token at ∷ us) (operated sign p q)

  -- Test [ ":=" Expr ], with a field access on the left under the rule
  pub data IsExpr : Bool → List Lexeme → PartShape → Type 0 where
    tested : (s : Bool) (ls : List Lexeme) (p : PartShape) → IsTest s ls p → IsExpr s ls p
    assign : (s : Bool) (at : ℕ) (ls us : List Lexeme) (p q : PartShape) → IsTest s ls p → may_put s p.term ≡ true → IsExpr s us q
        → IsExpr s (ls ++ lexeme tokens.Assign at ∷ us) (put p q)

  -- the terms of a sequence, and the place of their first token
  pub data IsSeq : Bool → List Lexeme → ℕ → List Marked → Type 0 where
    last : (s : Bool) (ls : List Lexeme) (p : PartShape) → IsExpr s ls p → IsSeq s ls p.start (p.term ∷ [])
    then : (s : Bool) (at : ℕ) (ls us : List Lexeme) (p : PartShape) (n : ℕ) (ts : List Marked) → IsExpr s ls p → IsSeq s us n ts
        → IsSeq s (ls ++ lexeme tokens.Semicolon at ∷ us) p.start (p.term ∷ ts)
    bind : (s : Bool) (at name_at equals_at in_at : ℕ) (x : Text) (ls us : List Lexeme) (n m : ℕ) (ts xs : List Marked) → IsSeq s ls n ts → IsSeq s us m xs
        → IsSeq s (lexeme tokens.Let at ∷ lexeme (tokens.Name x) name_at ∷ lexeme tokens.Equals equals_at ∷ (ls ++ lexeme tokens.In in_at ∷ us)) at
        (let_at at name_at x (terms_at n ts) (terms_at m xs) ∷ [])

-- a sequence, and then the end
pub record IsProgram (s : Bool) (ls : List Lexeme) (t : Marked) : Type 0 where
  pub sequence : List Lexeme
  pub start : ℕ
  pub terms : List Marked
  pub end : ℕ
  pub is : IsSeq s sequence start terms
  pub whole : ls ≡ sequence ++ lexeme tokens.End end ∷ []
  pub term : t ≡ terms_at start terms

-- the lexemes begin some program
pub record Begins (s : Bool) (ls : List Lexeme) : Type 0 where
  pub rest : List Lexeme
  pub program : Marked
  pub is : IsProgram s (ls ++ rest) program
