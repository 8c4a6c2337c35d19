-- What the parts before a state make together.
use Rattle.std.proofs.Common.{◌≡◌, ℕ, Bool, true, List, [], ◌∷◌, ◌++◌, Option, refl, sym, subst, append_assoc}
use Rattle.std.proofs.lemmas.List.{append-nil}
use Rattle.asp_model.specs.Names.{Text}
use Rattle.asp_model.specs.Term.{MethodHead}
use Rattle.asp_model.specs.Marked.{Marked}
use Rattle.syntax_tokens.specs.declared.token.Token.TheVariants as tokens
use Rattle.syntax_tokens.specs.Tokens.{Lexeme, lexeme}
use Rattle.syntax_grammar.specs.Nodes.{PartShape, terms_at, ObjectShape, made, method}
use Rattle.syntax_grammar.specs.Signs.{IsHead}
use Rattle.syntax_grammar.specs.Grammar.{IsPrim, object, group_none, group, IsPost, prim, call_none, call, IsArgs, field, and_field, first_method, and_method, fields, no_methods, methods, IsProd, post, times, IsSum, prod, plus, IsTest, sum, test, IsExpr, tested, assign, IsSeq, last, then}
use Rattle.syntax_grammar.specs.States.{OperatorShape, TargetShape, KindShape, InField, OpenShape, StateShape, has_terms, with_name, with_field, with_method, listed, joined, put_all, first_start, sequence_part, value}
use Rattle.syntax_grammar.proofs.Parts.{ProductPart, SumPart, TestPart, PutPart, StepPart, InLevel, object_of, names_more, NextField, NextMethod, Fielded, Methoded, IsTarget, of_call, of_group, waiting, Opened, Leads, no_product, some_product, no_sum, some_sum, no_test, some_test, no_put, more_put, no_step, more_step, in_level, a_field, next_field, a_method, next_method, fielded, methoded}

-- the same, of equal lexemes
pub seq_moved : {s : Bool} {ls ms : List Lexeme} {n : ℕ} {ts : List Marked} → IsSeq s ls n ts → ls ≡ ms → IsSeq s ms n ts
seq_moved {s = s} {n = n} {ts = ts} h e = subst (λ l. IsSeq s l n ts) e h

pub expr_moved : {s : Bool} {ls ms : List Lexeme} {p : PartShape} → IsExpr s ls p → ls ≡ ms → IsExpr s ms p
expr_moved {s = s} {p = p} h e = subst (λ l. IsExpr s l p) e h

pub test_moved : {s : Bool} {ls ms : List Lexeme} {p : PartShape} → IsTest s ls p → ls ≡ ms → IsTest s ms p
test_moved {s = s} {p = p} h e = subst (λ l. IsTest s l p) e h

pub sum_moved : {s : Bool} {ls ms : List Lexeme} {p : PartShape} → IsSum s ls p → ls ≡ ms → IsSum s ms p
sum_moved {s = s} {p = p} h e = subst (λ l. IsSum s l p) e h

pub prod_moved : {s : Bool} {ls ms : List Lexeme} {p : PartShape} → IsProd s ls p → ls ≡ ms → IsProd s ms p
prod_moved {s = s} {p = p} h e = subst (λ l. IsProd s l p) e h

pub prim_moved : {s : Bool} {ls ms : List Lexeme} {p : PartShape} → IsPrim s ls p → ls ≡ ms → IsPrim s ms p
prim_moved {s = s} {p = p} h e = subst (λ l. IsPrim s l p) e h

pub post_moved : {s : Bool} {ls ms : List Lexeme} {p : PartShape} → IsPost s ls p → ls ≡ ms → IsPost s ms p
post_moved {s = s} {p = p} h e = subst (λ l. IsPost s l p) e h

pub leads_moved : {s : Bool} {ls ms : List Lexeme} {x : StateShape} → Leads s ls x → ls ≡ ms → Leads s ms x
leads_moved {s = s} {x = x} h e = subst (λ l. Leads s l x) e h

pub opened_moved : {s : Bool} {ls ms : List Lexeme} {k : KindShape} {o : List OpenShape} → Opened s ls k o → ls ≡ ms → Opened s ms k o
opened_moved {s = s} {k = k} {o = o} h e = subst (λ l. Opened s l k o) e h

pub product_is : {s : Bool} {us vs : List Lexeme} {p : Option OperatorShape} {x : PartShape} → ProductPart s us p → IsPost s vs x → IsProd s (us ++ vs) (joined p x)
product_is no_product h = post _ _ _ h
product_is (some_product at i g) h = prod_moved (times _ _ _ at _ _ _ _ i g h) (simp append_assoc refl)

pub sum_is : {s : Bool} {us vs : List Lexeme} {p : Option OperatorShape} {x : PartShape} → SumPart s us p → IsProd s vs x → IsSum s (us ++ vs) (joined p x)
sum_is no_sum h = prod _ _ _ h
sum_is (some_sum at i g) h = sum_moved (plus _ _ _ at _ _ _ _ i g h) (simp append_assoc refl)

pub test_is : {s : Bool} {us vs : List Lexeme} {p : Option OperatorShape} {x : PartShape} → TestPart s us p → IsSum s vs x → IsTest s (us ++ vs) (joined p x)
test_is no_test h = sum _ _ _ h
test_is (some_test at i g) h = test_moved (test _ _ _ at _ _ _ _ i g h) (simp append_assoc refl)

pub put_is : {s : Bool} {us vs : List Lexeme} {ps : List PartShape} {x : PartShape} → PutPart s us ps → IsExpr s vs x → IsExpr s (us ++ vs) (put_all ps x)
put_is no_put h = h
put_is (more_put at f g e) h = expr_moved (put_is f (assign _ at _ _ _ _ g e h)) (simp append_assoc refl)

later_start : (before : List Marked) (t : Marked) (n m : ℕ) → first_start (before ++ t ∷ []) n m ≡ n
later_start [] t n m = refl
later_start (u ∷ before) t n m = refl

pub step_is : {s : Bool} {k : KindShape} {us vs : List Lexeme} {n m : ℕ} {xs ys : List Marked} → StepPart s k us n xs → IsSeq s vs m ys → IsSeq s (us ++ vs) (first_start xs n m) (xs ++ ys)
step_is no_step h = h
step_is {s = s} {vs = vs} {m = m} {ys = ys} (more_step {us = us} {vs = ws} {n = n} {ts = ts} {e = e} at b f g) h =
    let ls : List Lexeme = (us ++ (ws ++ lexeme tokens.Semicolon at ∷ [])) ++ vs in
    let i : ℕ = first_start ts n e.start in
    let x : IsSeq s ls i (ts ++ e.term ∷ ys) = seq_moved (step_is f (then _ at _ _ _ _ _ g h)) (simp append_assoc refl) in
    subst (λ j. IsSeq s ls j ((ts ++ e.term ∷ []) ++ ys)) (sym (later_start ts e.term i m)) (subst (λ l. IsSeq s ls i l) (sym (append_assoc ts (e.term ∷ []) ys)) x)

-- an operand in its place
pub as_sum : {s : Bool} {us vs ws : List Lexeme} {m p : Option OperatorShape} {x : PartShape} → SumPart s us m → ProductPart s vs p → IsPost s ws x → IsSum s (us ++ (vs ++ ws)) (joined m (joined p x))
as_sum f g h = sum_is f (product_is g h)

pub as_test : {s : Bool} {ts us vs ws : List Lexeme} {t m p : Option OperatorShape} {x : PartShape} → TestPart s ts t → SumPart s us m → ProductPart s vs p → IsPost s ws x
    → IsTest s (ts ++ (us ++ (vs ++ ws))) (joined t (joined m (joined p x)))
as_test e f g h = test_is e (as_sum f g h)

pub as_expr : {s : Bool} {zs ts us vs ws : List Lexeme} {ps : List PartShape} {t m p : Option OperatorShape} {x : PartShape} → PutPart s zs ps → TestPart s ts t → SumPart s us m → ProductPart s vs p → IsPost s ws x
    → IsExpr s (zs ++ (ts ++ (us ++ (vs ++ ws)))) (put_all ps (joined t (joined m (joined p x))))
as_expr d e f g h = put_is d (tested _ _ _ (as_test e f g h))

-- a list of terms, and one of none, with its end
pub list_none : {s : Bool} {ls : List Lexeme} {x : TargetShape} (close_at : ℕ) → IsTarget s ls x → IsPost s (ls ++ lexeme tokens.Close close_at ∷ []) (listed x [])
list_none close_at (of_call dot_at open_at h) = post_moved (call_none _ _ _ dot_at _ open_at close_at _ h) (simp append_assoc refl)
list_none close_at (of_group open_at) = prim _ _ _ (group_none _ _ open_at close_at)

pub list_some : {s : Bool} {ls us : List Lexeme} {x : TargetShape} {ts : List Marked} (close_at : ℕ) → IsTarget s ls x → IsArgs s us ts → IsPost s (ls ++ (us ++ lexeme tokens.Close close_at ∷ [])) (listed x ts)
list_some close_at (of_call dot_at open_at h) g = post_moved (call _ _ _ _ dot_at _ open_at close_at _ _ h g) (simp append_assoc refl)
list_some close_at (of_group open_at) g = prim _ _ _ (group _ _ open_at close_at _ _ g)

pub data Body : Bool → KindShape → List Lexeme → PartShape → Type 0 where
  terms : {s : Bool} {k : KindShape} {ls : List Lexeme} {n : ℕ} {ts : List Marked} → has_terms k ≡ true → IsSeq s ls n ts → Body s k ls (sequence_part n ts)
  one_term : {s : Bool} {x : ObjectShape} {label : Text} {ls : List Lexeme} {e : PartShape} → IsExpr s ls e → Body s (InField x label) ls e

pub body_moved : {s : Bool} {k : KindShape} {ls ms : List Lexeme} {v : PartShape} → Body s k ls v → ls ≡ ms → Body s k ms v
body_moved {s = s} {k = k} {v = v} h e = subst (λ l. Body s k l v) e h

body_is : {s : Bool} (k : KindShape) {us vs : List Lexeme} {n : ℕ} {before : List Marked} {e : PartShape} → StepPart s k us n before → IsExpr s vs e
    → Body s k (us ++ vs) (sequence_part (first_start before n e.start) (before ++ e.term ∷ []))
body_is (InField x label) no_step h = one_term h
body_is (InField x label) (more_step at e f g) h = absurd cc
body_is _ d h = terms refl (step_is d (last _ _ _ h))

-- the sequence, or the field's term, that an operand ends
pub as_body : {s : Bool} {us vs : List Lexeme} {r : OpenShape} {x : PartShape} → InLevel s us r → IsPost s vs x → Body s r.kind (us ++ vs) (value r x)
as_body (in_level {k = k} a b c d e) h = body_moved (body_is k a (as_expr b c d e h)) (simp append_assoc refl)

-- where a term is begun, an operand may stand
pub fresh_level : {s : Bool} {us : List Lexeme} {k : KindShape} {n : ℕ} {before : List Marked} → StepPart s k us n before → InLevel s us (waiting k n before)
fresh_level {s = s} {us = us} {k = k} {n = n} {before = before} d = subst (λ l. InLevel s l (waiting k n before)) (append-nil us) (in_level d no_put no_test no_sum no_product)

-- an object with one more field
pub field_end : {s : Bool} {vs us : List Lexeme} {x : ObjectShape} {e : PartShape} (at equals_at : ℕ) (label : Text) → NextField s vs x → IsExpr s us e
    → Fielded s (vs ++ lexeme (tokens.Name label) at ∷ lexeme tokens.Equals equals_at ∷ us) (with_field (with_name x at) label e.term)
field_end at equals_at label a_field h = fielded (field _ _ at equals_at label _ h)
field_end {s = s} {us = us} {e = e} at equals_at label (next_field {ls = ls} {at = i} {ns = ns} {fs = fs} c f) h =
    subst (λ l. Fielded s (lexeme tokens.SquareOpen i ∷ l) (object_of i (ns ++ at ∷ []) (fs ++ (label, e.term) ∷ []) []))
    (sym (append_assoc ls (lexeme tokens.Comma c ∷ []) (lexeme (tokens.Name label) at ∷ lexeme tokens.Equals equals_at ∷ us)))
    (fielded (and_field _ _ _ _ _ c at equals_at label _ f h))

pub field_object : {s : Bool} {ls : List Lexeme} {x : ObjectShape} (close_at : ℕ) → Fielded s ls x → IsPrim s (ls ++ lexeme tokens.SquareClose close_at ∷ []) (made x)
field_object {s = s} close_at (fielded {ls = ls} {at = at} {ns = ns} {fs = fs} h) =
    subst (λ ms. IsPrim s (lexeme tokens.SquareOpen at ∷ (ls ++ lexeme tokens.SquareClose close_at ∷ [])) (made (object_of at ms fs []))) (append-nil ns)
    (object _ at close_at _ _ _ _ _ _ (fields _ _ _ _ h) (no_methods _))

-- with one more method
pub method_end : {s : Bool} {vs ws us : List Lexeme} {x : ObjectShape} {h : MethodHead} {hs : List ℕ} {n : ℕ} {ts : List Marked} (close_at equals_at : ℕ) → NextMethod s vs x → IsHead ws hs h → IsSeq s us n ts
    → Methoded s (vs ++ (ws ++ lexeme tokens.Close close_at ∷ lexeme tokens.Equals equals_at ∷ us)) (with_method (names_more x hs) h (terms_at n ts))
method_end {s = s} {ws = ws} {us = us} {h = h} {hs = hs} {n = n} {ts = ts} close_at equals_at (a_method {ls = ls} {at = i} {ns = ns} {fs = fs} c f) g b =
    let rest : List Lexeme = ws ++ lexeme tokens.Close close_at ∷ lexeme tokens.Equals equals_at ∷ us in
    subst (λ l. Methoded s (lexeme tokens.SquareOpen i ∷ l) (object_of i (ns ++ hs) fs (method h (terms_at n ts) ∷ [])))
    (sym (append_assoc ls (lexeme tokens.Semicolon c ∷ []) rest))
    (methoded c f (first_method _ _ _ _ _ close_at equals_at _ _ g b))
method_end {s = s} {ws = ws} {us = us} {h = h} {hs = hs} {n = n} {ts = ts} close_at equals_at (next_method {ls = ls} {us = vs} {at = i} {ns = ns} {ms = ms} {fs = fs} {xs = xs} c d f m) g b =
    let rest : List Lexeme = ws ++ lexeme tokens.Close close_at ∷ lexeme tokens.Equals equals_at ∷ us in
    let from : List Lexeme = ls ++ lexeme tokens.Semicolon c ∷ (vs ++ lexeme tokens.Comma d ∷ rest) in
    let to : List Lexeme = (ls ++ lexeme tokens.Semicolon c ∷ (vs ++ lexeme tokens.Comma d ∷ [])) ++ rest in
    let same : from ≡ to = simp append_assoc refl in
    let x : Methoded s (lexeme tokens.SquareOpen i ∷ from) (object_of i (ns ++ (ms ++ hs)) fs (xs ++ method h (terms_at n ts) ∷ [])) =
    methoded c f (and_method _ _ _ _ _ _ _ _ d close_at equals_at _ _ m g b) in
    subst (λ l. Methoded s (lexeme tokens.SquareOpen i ∷ l) (object_of i ((ns ++ ms) ++ hs) fs (xs ++ method h (terms_at n ts) ∷ []))) same
    (subst (λ js. Methoded s (lexeme tokens.SquareOpen i ∷ from) (object_of i js fs (xs ++ method h (terms_at n ts) ∷ []))) (sym (append_assoc ns ms hs)) x)

pub method_object : {s : Bool} {ls : List Lexeme} {x : ObjectShape} (close_at : ℕ) → Methoded s ls x → IsPrim s (ls ++ lexeme tokens.SquareClose close_at ∷ []) (made x)
method_object close_at (methoded c f h) = prim_moved (object _ _ close_at _ _ _ _ _ _ f (methods _ _ _ _ c h)) (simp append_assoc refl)
