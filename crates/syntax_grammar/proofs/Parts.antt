-- What the lexemes before a state are.
use Rattle.std.proofs.Common.{◌≡◌, ℕ, Bool, true, List, [], ◌∷◌, ◌++◌, Option, Some, None}
use Rattle.asp_model.specs.Names.{Text}
use Rattle.asp_model.specs.Term.{Head, SignShape, MethodHead}
use Rattle.asp_model.specs.Marked.{Marked}
use Rattle.asp_model.specs.Shapes.{MarkedMethod}
use Rattle.syntax_tokens.specs.declared.token.Token.{Token}
use Rattle.syntax_tokens.specs.declared.token.Token.TheVariants as tokens
use Rattle.syntax_tokens.specs.Tokens.{Lexeme, lexeme}
use Rattle.syntax_grammar.specs.Nodes.{PartShape, terms_at, ObjectShape, LabelsShape}
use Rattle.syntax_grammar.specs.Signs.{IsProductSign, IsLabelWord, IsSumSign, IsTestSign, IsWord, IsHead, IsLabels}
use Rattle.syntax_grammar.specs.Grammar.{may_put, IsPost, IsArgs, IsFields, IsMethods, IsFieldPart, IsProd, IsSum, IsTest, IsExpr, IsSeq, IsProgram}
use Rattle.syntax_grammar.specs.States.{OperatorShape, TargetShape, OfCall, OfGroup, KindShape, Top, InParentheses, InWord, InCondition, InThen, InElse, InList, InScatter, InArguments, InMember, InIndex, InBinding, InBody, InField, InMethod, OpenShape, Plain, Access, OpenerShape, ByRound, ByBrace, ByEquals, ByComma, Begin, Want, Have, Dotted, ListBegun, Opening, LetNaming, ElseComing, EchoOpening, EchoText, EchoClosing, ObjectBegun, FieldNaming, MethodNaming, MethodNamed, SelfNaming, HeadNamed, ParameterNaming, StateShape, At, Done, operator, has_terms, opened_with, new_object, with_name, first_start, InActive, new_labels, ServiceNaming, ServiceNamed, GroupOpening, ScatterNaming, ServeOpening, ServeBegun, LabelNaming, LabelNamed}

pub data ProductPart : Bool → List Lexeme → Option OperatorShape → Type 0 where
  no_product : {s : Bool} → ProductPart s [] None
  some_product : {s : Bool} {ls : List Lexeme} {a : PartShape} {token : Token} {sign : SignShape} (at : ℕ) → IsProductSign token sign → IsProd s ls a
      → ProductPart s (ls ++ lexeme token at ∷ []) (Some (operator sign a))

pub data SumPart : Bool → List Lexeme → Option OperatorShape → Type 0 where
  no_sum : {s : Bool} → SumPart s [] None
  some_sum : {s : Bool} {ls : List Lexeme} {a : PartShape} {token : Token} {sign : SignShape} (at : ℕ) → IsSumSign token sign → IsSum s ls a
      → SumPart s (ls ++ lexeme token at ∷ []) (Some (operator sign a))

pub data TestPart : Bool → List Lexeme → Option OperatorShape → Type 0 where
  no_test : {s : Bool} → TestPart s [] None
  some_test : {s : Bool} {ls : List Lexeme} {a : PartShape} {token : Token} {sign : SignShape} (at : ℕ) → IsTestSign token sign → IsSum s ls a
      → TestPart s (ls ++ lexeme token at ∷ []) (Some (operator sign a))

pub data PutPart : Bool → List Lexeme → List PartShape → Type 0 where
  no_put : {s : Bool} → PutPart s [] []
  more_put : {s : Bool} {us vs : List Lexeme} {ps : List PartShape} {a : PartShape} (at : ℕ) → PutPart s us ps → IsTest s vs a → may_put s a.term ≡ true
      → PutPart s (us ++ (vs ++ lexeme tokens.Assign at ∷ [])) (a ∷ ps)

-- the terms before, and where they begin
pub data StepPart : Bool → KindShape → List Lexeme → ℕ → List Marked → Type 0 where
  no_step : {s : Bool} {k : KindShape} → StepPart s k [] 0 []
  more_step : {s : Bool} {k : KindShape} {us vs : List Lexeme} {n : ℕ} {ts : List Marked} {e : PartShape} (at : ℕ) → has_terms k ≡ true → StepPart s k us n ts → IsExpr s vs e
      → StepPart s k (us ++ (vs ++ lexeme tokens.Semicolon at ∷ [])) (first_start ts n e.start) (ts ++ e.term ∷ [])

-- the lexemes of a sequence up to an operand
pub data InLevel : Bool → List Lexeme → OpenShape → Type 0 where
  in_level : {s : Bool} {ws us ts vs zs : List Lexeme} {k : KindShape} {n : ℕ} {before : List Marked} {puts : List PartShape} {t m p : Option OperatorShape}
      → StepPart s k ws n before → PutPart s us puts → TestPart s ts t → SumPart s vs m → ProductPart s zs p → InLevel s (ws ++ (us ++ (ts ++ (vs ++ zs)))) (opened_with k n before puts t m p)

abbrev pub object_of : ℕ → List ℕ → List (Text × Marked) → List MarkedMethod → ObjectShape
object_of at ns fs ms = record { at = at; names = ns; fields = fs; methods = ms }

abbrev pub labels_of : Bool → ℕ → List ℕ → List Text → LabelsShape
labels_of polls at ns xs = record { at = at; polls = polls; names = ns; labels = xs }

abbrev pub names_more : ObjectShape → List ℕ → ObjectShape
names_more x ns = record x { names = x.names ++ ns }

-- an object up to where a field comes
pub data NextField : Bool → List Lexeme → ObjectShape → Type 0 where
  a_field : {s : Bool} {at : ℕ} → NextField s (lexeme tokens.SquareOpen at ∷ []) (new_object at)
  next_field : {s : Bool} {ls : List Lexeme} {at : ℕ} {ns : List ℕ} {fs : List (Text × Marked)} (comma_at : ℕ) → IsFields s ls ns fs
      → NextField s (lexeme tokens.SquareOpen at ∷ (ls ++ lexeme tokens.Comma comma_at ∷ [])) (object_of at ns fs [])

-- up to where a method comes
pub data NextMethod : Bool → List Lexeme → ObjectShape → Type 0 where
  a_method : {s : Bool} {ls : List Lexeme} {at : ℕ} {ns : List ℕ} {fs : List (Text × Marked)} (semicolon_at : ℕ) → IsFieldPart s ls ns fs
      → NextMethod s (lexeme tokens.SquareOpen at ∷ (ls ++ lexeme tokens.Semicolon semicolon_at ∷ [])) (object_of at ns fs [])
  next_method : {s : Bool} {ls us : List Lexeme} {at : ℕ} {ns ms : List ℕ} {fs : List (Text × Marked)} {xs : List MarkedMethod} (semicolon_at comma_at : ℕ) → IsFieldPart s ls ns fs → IsMethods s us ms xs
      → NextMethod s (lexeme tokens.SquareOpen at ∷ (ls ++ lexeme tokens.Semicolon semicolon_at ∷ (us ++ lexeme tokens.Comma comma_at ∷ []))) (object_of at (ns ++ ms) fs xs)

-- up to the end of a field
pub data Fielded : Bool → List Lexeme → ObjectShape → Type 0 where
  fielded : {s : Bool} {ls : List Lexeme} {at : ℕ} {ns : List ℕ} {fs : List (Text × Marked)} → IsFields s ls ns fs → Fielded s (lexeme tokens.SquareOpen at ∷ ls) (object_of at ns fs [])

-- up to the end of a method
pub data Methoded : Bool → List Lexeme → ObjectShape → Type 0 where
  methoded : {s : Bool} {ls us : List Lexeme} {at : ℕ} {ns ms : List ℕ} {fs : List (Text × Marked)} {xs : List MarkedMethod} (semicolon_at : ℕ) → IsFieldPart s ls ns fs → IsMethods s us ms xs
      → Methoded s (lexeme tokens.SquareOpen at ∷ (ls ++ lexeme tokens.Semicolon semicolon_at ∷ us)) (object_of at (ns ++ ms) fs xs)

-- what a list of terms is for, up to its bracket
pub data IsTarget : Bool → List Lexeme → TargetShape → Type 0 where
  of_call : {s : Bool} {ls : List Lexeme} {x : PartShape} {label : Text} {at : ℕ} (dot_at open_at : ℕ) → IsPost s ls x
      → IsTarget s (ls ++ lexeme tokens.Dot dot_at ∷ lexeme (tokens.Name label) at ∷ lexeme tokens.Open open_at ∷ []) (OfCall x at label)
  of_group : {s : Bool} {at : ℕ} (open_at : ℕ) → IsTarget s (lexeme tokens.Group at ∷ lexeme tokens.Open open_at ∷ []) (OfGroup at)

abbrev pub waiting : KindShape → ℕ → List Marked → OpenShape
waiting k n before = opened_with k n before [] None None None

-- the lexemes up to where a sequence was opened
pub data Opened : Bool → List Lexeme → KindShape → List OpenShape → Type 0 where
  top : {s : Bool} → Opened s [] Top []
  in_parentheses : {s : Bool} {ts us : List Lexeme} {r : OpenShape} {o : List OpenShape} {at : ℕ}
      → Opened s ts r.kind o → InLevel s us r → Opened s (ts ++ (us ++ lexeme tokens.Open at ∷ [])) (InParentheses at) (r ∷ o)
  in_word : {s : Bool} {ts us : List Lexeme} {r : OpenShape} {o : List OpenShape} {token : Token} {head : Head} {at : ℕ} (open_at : ℕ)
      → Opened s ts r.kind o → InLevel s us r → IsWord token head → Opened s (ts ++ (us ++ lexeme token at ∷ lexeme tokens.Open open_at ∷ [])) (InWord head at) (r ∷ o)
  in_active : {s : Bool} {ts us : List Lexeme} {r : OpenShape} {o : List OpenShape} {at : ℕ} (open_at : ℕ)
      → Opened s ts r.kind o → InLevel s us r → Opened s (ts ++ (us ++ lexeme tokens.Active at ∷ lexeme tokens.Open open_at ∷ [])) (InActive at) (r ∷ o)
  in_condition : {s : Bool} {ts us : List Lexeme} {r : OpenShape} {o : List OpenShape} {at : ℕ} (open_at : ℕ)
      → Opened s ts r.kind o → InLevel s us r → Opened s (ts ++ (us ++ lexeme tokens.If at ∷ lexeme tokens.Open open_at ∷ [])) (InCondition at) (r ∷ o)
  in_then : {s : Bool} {ts us vs : List Lexeme} {r : OpenShape} {o : List OpenShape} {at n : ℕ} {cs : List Marked} (open_at close_at brace_at : ℕ)
      → Opened s ts r.kind o → InLevel s us r → IsSeq s vs n cs
      → Opened s (ts ++ (us ++ lexeme tokens.If at ∷ lexeme tokens.Open open_at ∷ (vs ++ lexeme tokens.Close close_at ∷ lexeme tokens.BraceOpen brace_at ∷ []))) (InThen at (terms_at n cs)) (r ∷ o)
  in_else : {s : Bool} {ts us vs ws : List Lexeme} {r : OpenShape} {o : List OpenShape} {at n m : ℕ} {cs es : List Marked} (open_at close_at brace_at end_at else_at else_open : ℕ)
      → Opened s ts r.kind o → InLevel s us r → IsSeq s vs n cs → IsSeq s ws m es
      → Opened s (ts ++ (us ++ lexeme tokens.If at ∷ lexeme tokens.Open open_at ∷ (vs ++ lexeme tokens.Close close_at ∷ lexeme tokens.BraceOpen brace_at
      ∷ (ws ++ lexeme tokens.BraceClose end_at ∷ lexeme tokens.Else else_at ∷ lexeme tokens.BraceOpen else_open ∷ [])))) (InElse at (terms_at n cs) (terms_at m es)) (r ∷ o)
  in_list : {s : Bool} {ts us vs : List Lexeme} {r : OpenShape} {o : List OpenShape} {x : TargetShape}
      → Opened s ts r.kind o → InLevel s us r → IsTarget s vs x → Opened s (ts ++ (us ++ vs)) (InList x []) (r ∷ o)
  in_more : {s : Bool} {ts us vs ws : List Lexeme} {r : OpenShape} {o : List OpenShape} {x : TargetShape} {xs : List Marked} (comma_at : ℕ)
      → Opened s ts r.kind o → InLevel s us r → IsTarget s vs x → IsArgs s ws xs
      → Opened s (ts ++ (us ++ (vs ++ (ws ++ lexeme tokens.Comma comma_at ∷ [])))) (InList x xs) (r ∷ o)
  in_scatter : {s : Bool} {ts us : List Lexeme} {r : OpenShape} {o : List OpenShape} {at : ℕ} (open_at : ℕ)
      → Opened s ts r.kind o → InLevel s us r → Opened s (ts ++ (us ++ lexeme tokens.Scatter at ∷ lexeme tokens.Open open_at ∷ [])) (InScatter at) (r ∷ o)
  in_arguments : {s : Bool} {ts us vs : List Lexeme} {r : OpenShape} {o : List OpenShape} {at n label_at : ℕ} {xs : List Marked} {label : Text} (open_at comma_at second_at : ℕ)
      → Opened s ts r.kind o → InLevel s us r → IsSeq s vs n xs
      → Opened s (ts ++ (us ++ lexeme tokens.Scatter at ∷ lexeme tokens.Open open_at ∷ (vs ++ lexeme tokens.Comma comma_at ∷ lexeme (tokens.Name label) label_at ∷ lexeme tokens.Comma second_at ∷ [])))
      (InArguments at (terms_at n xs) label_at label) (r ∷ o)
  in_member : {s : Bool} {ts us : List Lexeme} {r : OpenShape} {o : List OpenShape} {at : ℕ} (open_at : ℕ)
      → Opened s ts r.kind o → InLevel s us r → Opened s (ts ++ (us ++ lexeme tokens.Member at ∷ lexeme tokens.Open open_at ∷ [])) (InMember at) (r ∷ o)
  in_index : {s : Bool} {ts us vs : List Lexeme} {r : OpenShape} {o : List OpenShape} {at n : ℕ} {xs : List Marked} (open_at comma_at : ℕ)
      → Opened s ts r.kind o → InLevel s us r → IsSeq s vs n xs
      → Opened s (ts ++ (us ++ lexeme tokens.Member at ∷ lexeme tokens.Open open_at ∷ (vs ++ lexeme tokens.Comma comma_at ∷ []))) (InIndex at (terms_at n xs)) (r ∷ o)
  in_binding : {s : Bool} {ts us : List Lexeme} {k : KindShape} {n : ℕ} {before : List Marked} {o : List OpenShape} {x : Text} {at name_at : ℕ} (equals_at : ℕ)
      → Opened s ts k o → StepPart s k us n before → has_terms k ≡ true
      → Opened s (ts ++ (us ++ lexeme tokens.Let at ∷ lexeme (tokens.Name x) name_at ∷ lexeme tokens.Equals equals_at ∷ [])) (InBinding at name_at x) (waiting k n before ∷ o)
  in_body : {s : Bool} {ts us vs : List Lexeme} {k : KindShape} {n m : ℕ} {before xs : List Marked} {o : List OpenShape} {x : Text} {at name_at : ℕ} (equals_at in_at : ℕ)
      → Opened s ts k o → StepPart s k us n before → has_terms k ≡ true → IsSeq s vs m xs
      → Opened s (ts ++ (us ++ lexeme tokens.Let at ∷ lexeme (tokens.Name x) name_at ∷ lexeme tokens.Equals equals_at ∷ (vs ++ lexeme tokens.In in_at ∷ []))) (InBody at name_at x (terms_at m xs)) (waiting k n before ∷ o)
  in_field : {s : Bool} {ts us vs : List Lexeme} {r : OpenShape} {o : List OpenShape} {x : ObjectShape} {label : Text} (at equals_at : ℕ)
      → Opened s ts r.kind o → InLevel s us r → NextField s vs x
      → Opened s (ts ++ (us ++ (vs ++ lexeme (tokens.Name label) at ∷ lexeme tokens.Equals equals_at ∷ []))) (InField (with_name x at) label) (r ∷ o)
  in_method : {s : Bool} {ts us vs ws : List Lexeme} {r : OpenShape} {o : List OpenShape} {x : ObjectShape} {h : MethodHead} {ns : List ℕ} (close_at equals_at : ℕ)
      → Opened s ts r.kind o → InLevel s us r → NextMethod s vs x → IsHead ws ns h
      → Opened s (ts ++ (us ++ (vs ++ (ws ++ lexeme tokens.Close close_at ∷ lexeme tokens.Equals equals_at ∷ [])))) (InMethod (names_more x ns) h) (r ∷ o)

abbrev pub opener_token : OpenerShape → Token
opener_token ByRound = tokens.Open
opener_token ByBrace = tokens.BraceOpen
opener_token ByEquals = tokens.Equals
opener_token ByComma = tokens.Comma

-- the lexemes that lead to a state
pub data Leads : Bool → List Lexeme → StateShape → Type 0 where
  begun : {s : Bool} {ts us : List Lexeme} {k : KindShape} {n : ℕ} {before : List Marked} {o : List OpenShape}
      → Opened s ts k o → StepPart s k us n before → has_terms k ≡ true → Leads s (ts ++ us) (At Begin (waiting k n before) o)
  wants : {s : Bool} {ts us : List Lexeme} {r : OpenShape} {o : List OpenShape} → Opened s ts r.kind o → InLevel s us r → Leads s (ts ++ us) (At Want r o)
  has : {s : Bool} {ts us vs : List Lexeme} {r : OpenShape} {o : List OpenShape} {x : PartShape}
      → Opened s ts r.kind o → InLevel s us r → IsPost s vs x → Leads s (ts ++ (us ++ vs)) (At (Have (Plain x)) r o)
  accesses : {s : Bool} {ts us vs : List Lexeme} {r : OpenShape} {o : List OpenShape} {x : PartShape} {at : ℕ} {label : Text} (dot_at : ℕ)
      → Opened s ts r.kind o → InLevel s us r → IsPost s vs x
      → Leads s (ts ++ (us ++ (vs ++ lexeme tokens.Dot dot_at ∷ lexeme (tokens.Name label) at ∷ []))) (At (Have (Access x at label)) r o)
  dots : {s : Bool} {ts us vs : List Lexeme} {r : OpenShape} {o : List OpenShape} {x : PartShape} (dot_at : ℕ)
      → Opened s ts r.kind o → InLevel s us r → IsPost s vs x → Leads s (ts ++ (us ++ (vs ++ lexeme tokens.Dot dot_at ∷ []))) (At (Dotted x) r o)
  lists : {s : Bool} {ts us vs : List Lexeme} {r : OpenShape} {o : List OpenShape} {x : TargetShape}
      → Opened s ts r.kind o → InLevel s us r → IsTarget s vs x → Leads s (ts ++ (us ++ vs)) (At (ListBegun x) r o)
  opens : {s : Bool} {ls : List Lexeme} {r : OpenShape} {o : List OpenShape} {opener : OpenerShape} {k : KindShape}
      → ((at : ℕ) → Opened s (ls ++ lexeme (opener_token opener) at ∷ []) k (r ∷ o)) → Leads s ls (At (Opening opener k) r o)
  lets : {s : Bool} {ts us : List Lexeme} {k : KindShape} {n : ℕ} {before : List Marked} {o : List OpenShape} {at : ℕ}
      → Opened s ts k o → StepPart s k us n before → has_terms k ≡ true → Leads s (ts ++ (us ++ lexeme tokens.Let at ∷ [])) (At (LetNaming at) (waiting k n before) o)
  service_comes : {s : Bool} {ts us vs : List Lexeme} {r : OpenShape} {o : List OpenShape} {at n : ℕ} {xs : List Marked} (open_at comma_at : ℕ)
      → Opened s ts r.kind o → InLevel s us r → IsSeq s vs n xs
      → Leads s (ts ++ (us ++ lexeme tokens.Active at ∷ lexeme tokens.Open open_at ∷ (vs ++ lexeme tokens.Comma comma_at ∷ []))) (At (ServiceNaming at (terms_at n xs)) r o)
  service_named : {s : Bool} {ts us vs : List Lexeme} {r : OpenShape} {o : List OpenShape} {at n label_at : ℕ} {xs : List Marked} {label : Text} (open_at comma_at : ℕ)
      → Opened s ts r.kind o → InLevel s us r → IsSeq s vs n xs
      → Leads s (ts ++ (us ++ lexeme tokens.Active at ∷ lexeme tokens.Open open_at ∷ (vs ++ lexeme tokens.Comma comma_at ∷ lexeme (tokens.Name label) label_at ∷ []))) (At (ServiceNamed at (terms_at n xs) label_at label) r o)
  groups : {s : Bool} {ts us : List Lexeme} {r : OpenShape} {o : List OpenShape} {at : ℕ} → Opened s ts r.kind o → InLevel s us r → Leads s (ts ++ (us ++ lexeme tokens.Group at ∷ [])) (At (GroupOpening at) r o)
  scatter_comes : {s : Bool} {ts us vs : List Lexeme} {r : OpenShape} {o : List OpenShape} {at n : ℕ} {xs : List Marked} (open_at comma_at : ℕ)
      → Opened s ts r.kind o → InLevel s us r → IsSeq s vs n xs
      → Leads s (ts ++ (us ++ lexeme tokens.Scatter at ∷ lexeme tokens.Open open_at ∷ (vs ++ lexeme tokens.Comma comma_at ∷ []))) (At (ScatterNaming at (terms_at n xs)) r o)
  serves : {s : Bool} {ts us : List Lexeme} {r : OpenShape} {o : List OpenShape} {at : ℕ} {leader : Token} {polls : Bool} → Opened s ts r.kind o → InLevel s us r → IsLabelWord leader polls → Leads s (ts ++ (us ++ lexeme leader at ∷ [])) (At (ServeOpening polls at) r o)
  serve_opens : {s : Bool} {ts us : List Lexeme} {r : OpenShape} {o : List OpenShape} {at : ℕ} {leader : Token} {polls : Bool} (open_at : ℕ)
      → Opened s ts r.kind o → InLevel s us r → IsLabelWord leader polls → Leads s (ts ++ (us ++ lexeme leader at ∷ lexeme tokens.Open open_at ∷ [])) (At (ServeBegun (new_labels polls at)) r o)
  label_comes : {s : Bool} {ts us vs : List Lexeme} {r : OpenShape} {o : List OpenShape} {at : ℕ} {leader : Token} {polls : Bool} {ns : List ℕ} {xs : List Text} (open_at comma_at : ℕ)
      → Opened s ts r.kind o → InLevel s us r → IsLabelWord leader polls → IsLabels vs ns xs
      → Leads s (ts ++ (us ++ lexeme leader at ∷ lexeme tokens.Open open_at ∷ (vs ++ lexeme tokens.Comma comma_at ∷ []))) (At (LabelNaming (labels_of polls at ns xs)) r o)
  label_named : {s : Bool} {ts us vs : List Lexeme} {r : OpenShape} {o : List OpenShape} {at : ℕ} {leader : Token} {polls : Bool} {ns : List ℕ} {xs : List Text} (open_at : ℕ)
      → Opened s ts r.kind o → InLevel s us r → IsLabelWord leader polls → IsLabels vs ns xs
      → Leads s (ts ++ (us ++ lexeme leader at ∷ lexeme tokens.Open open_at ∷ vs)) (At (LabelNamed (labels_of polls at ns xs)) r o)
  else_comes : {s : Bool} {ts us vs ws : List Lexeme} {r : OpenShape} {o : List OpenShape} {at n m : ℕ} {cs es : List Marked} (open_at close_at brace_at end_at : ℕ)
      → Opened s ts r.kind o → InLevel s us r → IsSeq s vs n cs → IsSeq s ws m es
      → Leads s (ts ++ (us ++ lexeme tokens.If at ∷ lexeme tokens.Open open_at ∷ (vs ++ lexeme tokens.Close close_at ∷ lexeme tokens.BraceOpen brace_at ∷ (ws ++ lexeme tokens.BraceClose end_at ∷ []))))
      (At (ElseComing at (terms_at n cs) (terms_at m es)) r o)
  echoes : {s : Bool} {ts us : List Lexeme} {r : OpenShape} {o : List OpenShape} {at : ℕ} → Opened s ts r.kind o → InLevel s us r → Leads s (ts ++ (us ++ lexeme tokens.Echo at ∷ [])) (At (EchoOpening at) r o)
  echo_opens : {s : Bool} {ts us : List Lexeme} {r : OpenShape} {o : List OpenShape} {at : ℕ} (open_at : ℕ)
      → Opened s ts r.kind o → InLevel s us r → Leads s (ts ++ (us ++ lexeme tokens.Echo at ∷ lexeme tokens.Open open_at ∷ [])) (At (EchoText at) r o)
  echo_reads : {s : Bool} {ts us : List Lexeme} {r : OpenShape} {o : List OpenShape} {at : ℕ} {text : Text} (open_at text_at : ℕ)
      → Opened s ts r.kind o → InLevel s us r → Leads s (ts ++ (us ++ lexeme tokens.Echo at ∷ lexeme tokens.Open open_at ∷ lexeme (tokens.Text text) text_at ∷ [])) (At (EchoClosing at text) r o)
  object_begins : {s : Bool} {ts us : List Lexeme} {r : OpenShape} {o : List OpenShape} {at : ℕ}
      → Opened s ts r.kind o → InLevel s us r → Leads s (ts ++ (us ++ lexeme tokens.SquareOpen at ∷ [])) (At (ObjectBegun (new_object at)) r o)
  field_comes : {s : Bool} {ts us vs : List Lexeme} {r : OpenShape} {o : List OpenShape} {x : ObjectShape}
      → Opened s ts r.kind o → InLevel s us r → NextField s vs x → Leads s (ts ++ (us ++ vs)) (At (FieldNaming x) r o)
  method_comes : {s : Bool} {ts us vs : List Lexeme} {r : OpenShape} {o : List OpenShape} {x : ObjectShape}
      → Opened s ts r.kind o → InLevel s us r → NextMethod s vs x → Leads s (ts ++ (us ++ vs)) (At (MethodNaming x) r o)
  method_named : {s : Bool} {ts us vs : List Lexeme} {r : OpenShape} {o : List OpenShape} {x : ObjectShape} {label : Text} (at : ℕ)
      → Opened s ts r.kind o → InLevel s us r → NextMethod s vs x → Leads s (ts ++ (us ++ (vs ++ lexeme (tokens.Name label) at ∷ []))) (At (MethodNamed (with_name x at) label) r o)
  self_comes : {s : Bool} {ts us vs : List Lexeme} {r : OpenShape} {o : List OpenShape} {x : ObjectShape} {label : Text} (at open_at : ℕ)
      → Opened s ts r.kind o → InLevel s us r → NextMethod s vs x
      → Leads s (ts ++ (us ++ (vs ++ lexeme (tokens.Name label) at ∷ lexeme tokens.Open open_at ∷ []))) (At (SelfNaming (with_name x at) label) r o)
  head_named : {s : Bool} {ts us vs ws : List Lexeme} {r : OpenShape} {o : List OpenShape} {x : ObjectShape} {h : MethodHead} {ns : List ℕ}
      → Opened s ts r.kind o → InLevel s us r → NextMethod s vs x → IsHead ws ns h → Leads s (ts ++ (us ++ (vs ++ ws))) (At (HeadNamed (names_more x ns) h) r o)
  parameter_comes : {s : Bool} {ts us vs ws : List Lexeme} {r : OpenShape} {o : List OpenShape} {x : ObjectShape} {h : MethodHead} {ns : List ℕ} (comma_at : ℕ)
      → Opened s ts r.kind o → InLevel s us r → NextMethod s vs x → IsHead ws ns h
      → Leads s (ts ++ (us ++ (vs ++ (ws ++ lexeme tokens.Comma comma_at ∷ [])))) (At (ParameterNaming (names_more x ns) h) r o)
  ends : {s : Bool} {ls : List Lexeme} {t : Marked} → IsProgram s ls t → Leads s ls (Done t)
