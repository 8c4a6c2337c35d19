-- What is read is in the grammar.
use Rattle.std.proofs.Common.{◌≡◌, ℕ, Bool, true, false, List, [], ◌∷◌, ◌++◌, Option, Some, None, refl, sym, subst, append_assoc}
use Rattle.std.proofs.lemmas.List.{append-nil}
use Rattle.asp_model.specs.Names.{Text}
use Rattle.asp_model.specs.Term.{SignShape, MethodHead}
use Rattle.asp_model.specs.Marked.{Marked}
use Rattle.syntax_tokens.specs.declared.token.Token.{Token}
use Rattle.syntax_tokens.specs.declared.token.Token.TheVariants as tokens
use Rattle.syntax_tokens.specs.Tokens.{Lexeme, lexeme}
use Rattle.syntax_grammar.specs.Nodes.{PartShape, terms_at, ObjectShape, with_parameter}
use Rattle.syntax_grammar.specs.Signs.{IsProductSign, multiplies, divides, leaves, IsSumSign, adds, subtracts, IsTestSign, is_less, is_same, clones, repeats, prints, sizes, awaits, IsLabelWord, is_serve, is_pending, IsHead, head, parameter, service, IsLabels, first_label, and_label, no_labels, labels}
use Rattle.syntax_grammar.specs.Grammar.{may_put, number, variable, object, echo, IsPost, get, no_fields, no_methods, IsSeq, IsProgram, active, serve}
use Rattle.syntax_grammar.specs.States.{OperatorShape, TargetShape, KindShape, InField, OpenShape, Plain, Access, OpenerShape, ByRound, ByBrace, ByEquals, ByComma, HeadNamed, StateShape, At, Done, has_terms, opened_with, test_in, term_in, new_object, with_name, new_labels}
use Rattle.syntax_grammar.specs.Changes as changes
use Rattle.syntax_grammar.specs.Machine as machine
use Rattle.syntax_grammar.specs.Closings.{◌>>=◌}
use Rattle.syntax_grammar.specs.Changes.{changed, operand, begin}
use Rattle.syntax_grammar.specs.Machine.{next_term, step, run, start}
use Rattle.syntax_grammar.proofs.Parts.{no_product, some_product, no_sum, some_sum, no_test, some_test, more_put, StepPart, no_step, more_step, InLevel, in_level, names_more, NextField, a_field, NextMethod, a_method, IsTarget, of_call, of_group, waiting, Opened, top, in_parentheses, in_word, in_condition, in_else, in_list, in_scatter, in_arguments, in_member, in_binding, in_field, in_method, opener_token, Leads, begun, wants, has, accesses, dots, lists, opens, lets, else_comes, echoes, echo_opens, echo_reads, object_begins, field_comes, method_comes, method_named, self_comes, head_named, parameter_comes, ends, labels_of, in_active, service_comes, service_named, groups, scatter_comes, serves, serve_opens, label_comes, label_named}
use Rattle.syntax_grammar.proofs.Wholes.{leads_moved, opened_moved, product_is, as_sum, as_test, as_expr, list_none, fresh_level, field_end}
use Rattle.syntax_grammar.proofs.Ends.{finish_is, After, nothing, comes, after_moved, opened_is, has_prim, close_is, brace_is, square_is, field_semicolon, comma_is, bound_is, ended_is}

times_next : {s : Bool} {ls us vs : List Lexeme} {r : OpenShape} {o : List OpenShape} {x : PartShape} {token : Token} {sign : SignShape} (at : ℕ) → IsProductSign token sign
    → Opened s ls r.kind o → InLevel s us r → IsPost s vs x → After s (ls ++ (us ++ (vs ++ lexeme token at ∷ []))) (machine.times sign x r o)
times_next at i f (in_level a b c d e) h = comes (leads_moved (wants f (in_level a b c d (some_product at i (product_is e h)))) (simp append_assoc refl))

plus_next : {s : Bool} {ls us vs : List Lexeme} {r : OpenShape} {o : List OpenShape} {x : PartShape} {token : Token} {sign : SignShape} (at : ℕ) → IsSumSign token sign
    → Opened s ls r.kind o → InLevel s us r → IsPost s vs x → After s (ls ++ (us ++ (vs ++ lexeme token at ∷ []))) (machine.plus sign x r o)
plus_next at i f (in_level a b c d e) h = comes (leads_moved (wants f (in_level a b c (some_sum at i (as_sum d e h)) no_product)) (simp (append_assoc, append-nil) refl))

test_next : {s : Bool} {ls us vs : List Lexeme} {r : OpenShape} {o : List OpenShape} {x : PartShape} {token : Token} {sign : SignShape} (at : ℕ) → IsTestSign token sign
    → Opened s ls r.kind o → InLevel s us r → IsPost s vs x → After s (ls ++ (us ++ (vs ++ lexeme token at ∷ []))) (machine.test_behind r.test sign x r o)
test_next at i f (in_level a b (some_test at2 j c) d e) h = nothing
test_next at i f (in_level a b no_test d e) h = comes (leads_moved (wants f (in_level a b (some_test at i (as_sum d e h)) no_sum no_product)) (simp (append_assoc, append-nil) refl))

put_next : {s : Bool} {ls us vs : List Lexeme} {r : OpenShape} {o : List OpenShape} {x : PartShape} (at : ℕ)
    → Opened s ls r.kind o → InLevel s us r → IsPost s vs x → (d : Bool) → may_put s (test_in r x).term ≡ d → After s (ls ++ (us ++ (vs ++ lexeme tokens.Assign at ∷ []))) (machine.assign (test_in r x) d r o)
put_next at f g h false e = nothing
put_next at f (in_level a b c d e) h true i = comes (leads_moved (wants f (in_level a (more_put at b (as_test c d e h) i) no_test no_sum no_product)) (simp (append_assoc, append-nil) refl))

-- another term of a sequence, or the first method
term_next : {s : Bool} {ls us vs : List Lexeme} (k : KindShape) {n : ℕ} {before : List Marked} {puts : List PartShape} {t m p : Option OperatorShape} {o : List OpenShape} {x : PartShape} (at : ℕ)
    → Opened s ls k o → InLevel s us (opened_with k n before puts t m p) → IsPost s vs x
    → After s (ls ++ (us ++ (vs ++ lexeme tokens.Semicolon at ∷ []))) (next_term k (term_in (opened_with k n before puts t m p) x) (opened_with k n before puts t m p) o)
term_next (InField y label) at (in_field name_at equals_at f g i) (in_level no_step b c d e) h =
    field_semicolon at f g (field_end name_at equals_at _ i (as_expr b c d e h)) (simp append_assoc refl)
term_next (InField y label) at f (in_level (more_step i e a j) b c d l) h = absurd cc
term_next _ at f (in_level a b c d e) h = comes (leads_moved (begun f (more_step at refl a (as_expr b c d e h)) refl) (simp append_assoc refl))

-- any token but the bracket of a call
behind_next : {s : Bool} {ls us vs : List Lexeme} {r : OpenShape} {o : List OpenShape} {x : PartShape} → Opened s ls r.kind o → InLevel s us r → IsPost s vs x
    → (token : Token) (at : ℕ) → After s (ls ++ (us ++ (vs ++ lexeme token at ∷ []))) (machine.behind s x r o token)
behind_next f g h tokens.Dot at = comes (dots at f g h)
behind_next f g h tokens.Star at = times_next at multiplies f g h
behind_next f g h tokens.Slash at = times_next at divides f g h
behind_next f g h tokens.Percent at = times_next at leaves f g h
behind_next f g h tokens.Plus at = plus_next at adds f g h
behind_next f g h tokens.Minus at = plus_next at subtracts f g h
behind_next f g h tokens.Less at = test_next at is_less f g h
behind_next f g h tokens.Same at = test_next at is_same f g h
behind_next {s = s} {r = r} {x = x} f g h tokens.Assign at = put_next at f g h (may_put s (test_in r x).term) refl
behind_next {r = r} f g h tokens.Semicolon at = term_next r.kind at f g h
behind_next f g h tokens.In at = after_moved (bound_is at (finish_is f g h)) (simp append_assoc refl)
behind_next f g h tokens.Close at = after_moved (close_is at (finish_is f g h)) (simp append_assoc refl)
behind_next f g h tokens.BraceClose at = after_moved (brace_is at (finish_is f g h)) (simp append_assoc refl)
behind_next f g h tokens.SquareClose at = after_moved (square_is at (finish_is f g h)) (simp append_assoc refl)
behind_next f g h tokens.Comma at = after_moved (comma_is at (finish_is f g h)) (simp append_assoc refl)
behind_next f g h tokens.End at = after_moved (ended_is at (finish_is f g h)) (simp append_assoc refl)
behind_next f g h _ at = nothing

have_next : {s : Bool} {ls us vs : List Lexeme} {r : OpenShape} {o : List OpenShape} {x : PartShape} → Opened s ls r.kind o → InLevel s us r → IsPost s vs x
    → (token : Token) (at : ℕ) → After s (ls ++ (us ++ (vs ++ lexeme token at ∷ []))) (machine.have s (Plain x) r o token)
have_next f g h tokens.Open at = nothing
have_next f g h token at = behind_next f g h token at

access_next : {s : Bool} {ls us vs : List Lexeme} {r : OpenShape} {o : List OpenShape} {x : PartShape} (dot_at name_at : ℕ) (label : Text) → Opened s ls r.kind o → InLevel s us r → IsPost s vs x
    → (token : Token) (at : ℕ) → After s ((ls ++ (us ++ (vs ++ lexeme tokens.Dot dot_at ∷ lexeme (tokens.Name label) name_at ∷ []))) ++ lexeme token at ∷ []) (machine.have s (Access x name_at label) r o token)
access_next dot_at name_at label f g h tokens.Open at = comes (leads_moved (lists f g (of_call dot_at at h)) (simp append_assoc refl))
access_next dot_at name_at label f g h token at = after_moved (behind_next f g (get _ _ _ dot_at name_at label h) token at) (simp append_assoc refl)

-- a token where an operand is wanted
want_next : {s : Bool} {ls us : List Lexeme} {r : OpenShape} {o : List OpenShape} → Opened s ls r.kind o → InLevel s us r
    → (token : Token) (at : ℕ) → After s (ls ++ (us ++ lexeme token at ∷ [])) (changed (operand token at) r o)
want_next f g (tokens.Number n) at = has_prim f g (number _ at n) refl
want_next f g (tokens.Name x) at = has_prim f g (variable _ at x) refl
want_next f g tokens.Open at = opened_is (in_parentheses {at = at} f g) refl
want_next f g tokens.SquareOpen at = comes (object_begins f g)
want_next f g tokens.Clone at = comes (opens (λ i. opened_moved (in_word {at = at} i f g clones) (simp append_assoc refl)))
want_next f g tokens.Active at = comes (opens (λ i. opened_moved (in_active {at = at} i f g) (simp append_assoc refl)))
want_next f g tokens.Serve at = comes (serves f g is_serve)
want_next f g tokens.Pending at = comes (serves f g is_pending)
want_next f g tokens.Repeat at = comes (opens (λ i. opened_moved (in_word {at = at} i f g repeats) (simp append_assoc refl)))
want_next f g tokens.Print at = comes (opens (λ i. opened_moved (in_word {at = at} i f g prints) (simp append_assoc refl)))
want_next f g tokens.If at = comes (opens (λ i. opened_moved (in_condition {at = at} i f g) (simp append_assoc refl)))
want_next f g tokens.Echo at = comes (echoes f g)
want_next f g tokens.Group at = comes (groups f g)
want_next f g tokens.Scatter at = comes (opens (λ i. opened_moved (in_scatter {at = at} i f g) (simp append_assoc refl)))
want_next f g tokens.Size at = comes (opens (λ i. opened_moved (in_word {at = at} i f g sizes) (simp append_assoc refl)))
want_next f g tokens.Member at = comes (opens (λ i. opened_moved (in_member {at = at} i f g) (simp append_assoc refl)))
want_next f g tokens.WaitAll at = comes (opens (λ i. opened_moved (in_word {at = at} i f g awaits) (simp append_assoc refl)))
want_next f g _ at = nothing

begin_next : {s : Bool} {ls us : List Lexeme} {k : KindShape} {n : ℕ} {before : List Marked} {o : List OpenShape} → Opened s ls k o → StepPart s k us n before → has_terms k ≡ true
    → (token : Token) (at : ℕ) → After s (ls ++ (us ++ lexeme token at ∷ [])) (changed (begin token at) (waiting k n before) o)
begin_next f d e tokens.Let at = comes (lets f d e)
begin_next f d e token at = want_next f (fresh_level d) token at

list_next : {s : Bool} {ls us vs : List Lexeme} {r : OpenShape} {o : List OpenShape} {x : TargetShape} → Opened s ls r.kind o → InLevel s us r → IsTarget s vs x
    → (token : Token) (at : ℕ) → After s ((ls ++ (us ++ vs)) ++ lexeme token at ∷ []) (machine.listing x r o token at)
list_next f g h tokens.Close at = comes (leads_moved (has f g (list_none at h)) (simp append_assoc refl))
list_next f g h token at = begin_next (in_list f g h) no_step refl token at

dot_next : {s : Bool} {ls us vs : List Lexeme} {r : OpenShape} {o : List OpenShape} {x : PartShape} (dot_at : ℕ) → Opened s ls r.kind o → InLevel s us r → IsPost s vs x
    → (token : Token) (at : ℕ) → After s ((ls ++ (us ++ (vs ++ lexeme tokens.Dot dot_at ∷ []))) ++ lexeme token at ∷ []) (changed (changes.dotted x token at) r o)
dot_next dot_at f g h (tokens.Name label) at = comes (leads_moved (accesses dot_at f g h) (simp append_assoc refl))
dot_next dot_at f g h _ at = nothing

open_next : {s : Bool} (ls : List Lexeme) {r : OpenShape} {o : List OpenShape} (opener : OpenerShape) {k : KindShape} → ((at : ℕ) → Opened s (ls ++ lexeme (opener_token opener) at ∷ []) k (r ∷ o))
    → (token : Token) (at : ℕ) → After s (ls ++ lexeme token at ∷ []) (changed (changes.opening opener k token) r o)
open_next ls ByRound f tokens.Open at = opened_is (f at) refl
open_next ls ByRound f _ at = nothing
open_next ls ByBrace f tokens.BraceOpen at = opened_is (f at) refl
open_next ls ByBrace f _ at = nothing
open_next ls ByEquals f tokens.Equals at = opened_is (f at) refl
open_next ls ByEquals f _ at = nothing
open_next ls ByComma f tokens.Comma at = opened_is (f at) refl
open_next ls ByComma f _ at = nothing

let_next : {s : Bool} {ls us : List Lexeme} {k : KindShape} {n : ℕ} {before : List Marked} {o : List OpenShape} (let_at : ℕ) → Opened s ls k o → StepPart s k us n before → has_terms k ≡ true
    → (token : Token) (at : ℕ) → After s ((ls ++ (us ++ lexeme tokens.Let let_at ∷ [])) ++ lexeme token at ∷ []) (changed (changes.let_named let_at token at) (waiting k n before) o)
let_next let_at f d e (tokens.Name x) at = comes (opens (λ i. opened_moved (in_binding {at = let_at} {name_at = at} i f d e) (simp append_assoc refl)))
let_next let_at f d e _ at = nothing

else_next : {s : Bool} {ls us vs ws : List Lexeme} {r : OpenShape} {o : List OpenShape} {n m : ℕ} {cs es : List Marked} (if_at open_at close_at brace_at end_at : ℕ)
    → Opened s ls r.kind o → InLevel s us r → IsSeq s vs n cs → IsSeq s ws m es → (token : Token) (at : ℕ)
    → After s ((ls ++ (us ++ lexeme tokens.If if_at ∷ lexeme tokens.Open open_at ∷ (vs ++ lexeme tokens.Close close_at ∷ lexeme tokens.BraceOpen brace_at ∷ (ws ++ lexeme tokens.BraceClose end_at ∷ [])))) ++ lexeme token at ∷ [])
    (changed (changes.else_came if_at (terms_at n cs) (terms_at m es) token) r o)
else_next if_at open_at close_at brace_at end_at f g c t tokens.Else at = comes (opens (λ i. opened_moved (in_else {at = if_at} open_at close_at brace_at end_at at i f g c t) (simp append_assoc refl)))
else_next if_at open_at close_at brace_at end_at f g c t _ at = nothing

module _ {s : Bool} {ls us : List Lexeme} {r : OpenShape} {o : List OpenShape} (f : Opened s ls r.kind o) (g : InLevel s us r) where
  echo_next : (echo_at : ℕ) (token : Token) (at : ℕ) → After s ((ls ++ (us ++ lexeme tokens.Echo echo_at ∷ [])) ++ lexeme token at ∷ []) (changed (changes.echo_opened echo_at token) r o)
  echo_next echo_at tokens.Open at = comes (leads_moved (echo_opens {at = echo_at} at f g) (simp append_assoc refl))
  echo_next echo_at _ at = nothing

  text_next : (echo_at open_at : ℕ) (token : Token) (at : ℕ) → After s ((ls ++ (us ++ lexeme tokens.Echo echo_at ∷ lexeme tokens.Open open_at ∷ [])) ++ lexeme token at ∷ []) (changed (changes.echo_read echo_at token) r o)
  text_next echo_at open_at (tokens.Text text) at = comes (leads_moved (echo_reads {at = echo_at} open_at at f g) (simp append_assoc refl))
  text_next echo_at open_at _ at = nothing

  echo_end_next : (echo_at open_at text_at : ℕ) (text : Text) (token : Token) (at : ℕ)
      → After s ((ls ++ (us ++ lexeme tokens.Echo echo_at ∷ lexeme tokens.Open open_at ∷ lexeme (tokens.Text text) text_at ∷ [])) ++ lexeme token at ∷ []) (changed (changes.echo_closed echo_at text token) r o)
  echo_end_next echo_at open_at text_at text tokens.Close at = has_prim f g (echo _ echo_at open_at text_at at text) (simp append_assoc refl)
  echo_end_next echo_at open_at text_at text _ at = nothing

  service_next : {vs : List Lexeme} {n : ℕ} {xs : List Marked} → IsSeq s vs n xs → (active_at open_at comma_at : ℕ) (token : Token) (at : ℕ)
      → After s ((ls ++ (us ++ lexeme tokens.Active active_at ∷ lexeme tokens.Open open_at ∷ (vs ++ lexeme tokens.Comma comma_at ∷ []))) ++ lexeme token at ∷ []) (changed (changes.service_named active_at (terms_at n xs) token at) r o)
  service_next h active_at open_at comma_at (tokens.Name label) at = comes (leads_moved (service_named {at = active_at} open_at comma_at f g h) (simp append_assoc refl))
  service_next h active_at open_at comma_at _ at = nothing

  service_end_next : {vs : List Lexeme} {n : ℕ} {xs : List Marked} → IsSeq s vs n xs → (active_at open_at comma_at label_at : ℕ) (label : Text) (token : Token) (at : ℕ)
      → After s ((ls ++ (us ++ lexeme tokens.Active active_at ∷ lexeme tokens.Open open_at ∷ (vs ++ lexeme tokens.Comma comma_at ∷ lexeme (tokens.Name label) label_at ∷ []))) ++ lexeme token at ∷ [])
      (changed (changes.service_closed active_at (terms_at n xs) label_at label token) r o)
  service_end_next h active_at open_at comma_at label_at label tokens.Close at = has_prim f g (active _ active_at open_at at _ _ _ _ _ _ h (service comma_at label_at label)) (simp append_assoc refl)
  service_end_next h active_at open_at comma_at label_at label _ at = nothing

  group_next : (group_at : ℕ) (token : Token) (at : ℕ) → After s ((ls ++ (us ++ lexeme tokens.Group group_at ∷ [])) ++ lexeme token at ∷ []) (changed (changes.group_opened group_at token) r o)
  group_next group_at tokens.Open at = comes (leads_moved (lists f g (of_group {at = group_at} at)) (simp append_assoc refl))
  group_next group_at _ at = nothing

  scatter_next : {vs : List Lexeme} {n : ℕ} {xs : List Marked} → IsSeq s vs n xs → (scatter_at open_at comma_at : ℕ) (token : Token) (at : ℕ)
      → After s ((ls ++ (us ++ lexeme tokens.Scatter scatter_at ∷ lexeme tokens.Open open_at ∷ (vs ++ lexeme tokens.Comma comma_at ∷ []))) ++ lexeme token at ∷ []) (changed (changes.scatter_named scatter_at (terms_at n xs) token at) r o)
  scatter_next h scatter_at open_at comma_at (tokens.Name label) at = comes (opens (λ i. opened_moved (in_arguments {at = scatter_at} open_at comma_at i f g h) (simp append_assoc refl)))
  scatter_next h scatter_at open_at comma_at _ at = nothing

  serve_next : {leader : Token} {polls : Bool} → IsLabelWord leader polls → (serve_at : ℕ) (token : Token) (at : ℕ) → After s ((ls ++ (us ++ lexeme leader serve_at ∷ [])) ++ lexeme token at ∷ []) (changed (changes.serve_opened polls serve_at token) r o)
  serve_next w serve_at tokens.Open at = comes (leads_moved (serve_opens {at = serve_at} at f g w) (simp append_assoc refl))
  serve_next w serve_at _ at = nothing

  first_label_next : {leader : Token} {polls : Bool} → IsLabelWord leader polls → (serve_at open_at : ℕ) (token : Token) (at : ℕ)
      → After s ((ls ++ (us ++ lexeme leader serve_at ∷ lexeme tokens.Open open_at ∷ [])) ++ lexeme token at ∷ []) (changed (changes.serve_begun (new_labels polls serve_at) token at) r o)
  first_label_next w serve_at open_at tokens.Close at = has_prim f g (serve _ _ _ serve_at open_at at _ _ _ w no_labels) (simp append_assoc refl)
  first_label_next w serve_at open_at (tokens.Name label) at = comes (leads_moved (label_named {at = serve_at} open_at f g w (first_label at label)) (simp append_assoc refl))
  first_label_next w serve_at open_at _ at = nothing

  module _ {vs : List Lexeme} {ns : List ℕ} {xs : List Text} (h : IsLabels vs ns xs) where
    label_next : {leader : Token} {polls : Bool} → IsLabelWord leader polls → (serve_at open_at comma_at : ℕ) (token : Token) (at : ℕ)
        → After s ((ls ++ (us ++ lexeme leader serve_at ∷ lexeme tokens.Open open_at ∷ (vs ++ lexeme tokens.Comma comma_at ∷ []))) ++ lexeme token at ∷ []) (changed (changes.label_named (labels_of polls serve_at ns xs) token at) r o)
    label_next w serve_at open_at comma_at (tokens.Name label) at = comes (leads_moved (label_named {at = serve_at} open_at f g w (and_label _ _ _ comma_at at label h)) (simp append_assoc refl))
    label_next w serve_at open_at comma_at _ at = nothing

    labels_next : {leader : Token} {polls : Bool} → IsLabelWord leader polls → (serve_at open_at : ℕ) (token : Token) (at : ℕ)
        → After s ((ls ++ (us ++ lexeme leader serve_at ∷ lexeme tokens.Open open_at ∷ vs)) ++ lexeme token at ∷ []) (changed (changes.labels_go_on (labels_of polls serve_at ns xs) token) r o)
    labels_next w serve_at open_at tokens.Comma at = comes (leads_moved (label_comes {at = serve_at} open_at at f g w h) (simp append_assoc refl))
    labels_next w serve_at open_at tokens.Close at = has_prim f g (serve _ _ _ serve_at open_at at _ _ _ w (labels _ _ _ h)) (simp append_assoc refl)
    labels_next w serve_at open_at _ at = nothing

  field_next : {vs : List Lexeme} {x : ObjectShape} → NextField s vs x → (token : Token) (at : ℕ) → After s ((ls ++ (us ++ vs)) ++ lexeme token at ∷ []) (changed (changes.field_named x token at) r o)
  field_next h (tokens.Name label) at = comes (opens (λ i. opened_moved (in_field at i f g h) (simp append_assoc refl)))
  field_next h _ at = nothing

  object_next : (object_at : ℕ) (token : Token) (at : ℕ) → After s ((ls ++ (us ++ lexeme tokens.SquareOpen object_at ∷ [])) ++ lexeme token at ∷ []) (changed (changes.object_begun (new_object object_at) token at) r o)
  object_next object_at tokens.Semicolon at = comes (leads_moved (method_comes f g (a_method {at = object_at} at (no_fields _))) (simp append_assoc refl))
  object_next object_at tokens.SquareClose at = has_prim f g (object _ object_at at _ _ _ _ _ _ (no_fields _) (no_methods _)) (simp append_assoc refl)
  object_next object_at token at = field_next (a_field {at = object_at}) token at

  module _ {vs : List Lexeme} {x : ObjectShape} (h : NextMethod s vs x) where
    method_next : (token : Token) (at : ℕ) → After s ((ls ++ (us ++ vs)) ++ lexeme token at ∷ []) (changed (changes.method_named x token at) r o)
    method_next (tokens.Name label) at = comes (leads_moved (method_named at f g h) (simp append_assoc refl))
    method_next _ at = nothing

    method_open_next : (name_at : ℕ) (label : Text) (token : Token) (at : ℕ)
        → After s ((ls ++ (us ++ (vs ++ lexeme (tokens.Name label) name_at ∷ []))) ++ lexeme token at ∷ []) (changed (changes.method_opened (with_name x name_at) label token) r o)
    method_open_next name_at label tokens.Open at = comes (leads_moved (self_comes name_at at f g h) (simp append_assoc refl))
    method_open_next name_at label _ at = nothing

    self_next : (name_at open_at : ℕ) (label : Text) (token : Token) (at : ℕ)
        → After s ((ls ++ (us ++ (vs ++ lexeme (tokens.Name label) name_at ∷ lexeme tokens.Open open_at ∷ []))) ++ lexeme token at ∷ []) (changed (changes.self_named (with_name x name_at) label token at) r o)
    self_next name_at open_at label (tokens.Name slf) at =
        let ms : List Lexeme = (ls ++ (us ++ (vs ++ lexeme (tokens.Name label) name_at ∷ lexeme tokens.Open open_at ∷ []))) ++ lexeme (tokens.Name slf) at ∷ [] in
        let h : Leads s ms (At (HeadNamed (names_more x (name_at ∷ at ∷ [])) (record { label = label; slf = slf; parameters = [] })) r o) =
        leads_moved (head_named f g h (head name_at open_at at label slf)) (simp append_assoc refl) in
        comes (subst (λ ns. Leads s ms (At (HeadNamed (record x { names = ns }) (record { label = label; slf = slf; parameters = [] })) r o)) (sym (append_assoc x.names (name_at ∷ []) (at ∷ []))) h)
    self_next name_at open_at label _ at = nothing

    module _ {ws : List Lexeme} {ns : List ℕ} {top : MethodHead} (i : IsHead ws ns top) where
      head_next : (token : Token) (at : ℕ) → After s ((ls ++ (us ++ (vs ++ ws))) ++ lexeme token at ∷ []) (changed (changes.head_goes_on (names_more x ns) top token) r o)
      head_next tokens.Comma at = comes (leads_moved (parameter_comes at f g h i) (simp append_assoc refl))
      head_next tokens.Close at = comes (opens (λ e. opened_moved (in_method at e f g h i) (simp append_assoc refl)))
      head_next _ at = nothing

      parameter_next : (comma_at : ℕ) (token : Token) (at : ℕ) → After s ((ls ++ (us ++ (vs ++ (ws ++ lexeme tokens.Comma comma_at ∷ [])))) ++ lexeme token at ∷ []) (changed (changes.parameter_named (names_more x ns) top token at) r o)
      parameter_next comma_at (tokens.Name name) at =
          let ms : List Lexeme = (ls ++ (us ++ (vs ++ (ws ++ lexeme tokens.Comma comma_at ∷ [])))) ++ lexeme (tokens.Name name) at ∷ [] in
          let h : Leads s ms (At (HeadNamed (names_more x (ns ++ at ∷ [])) (with_parameter top name)) r o) =
          leads_moved (head_named f g h (parameter _ _ _ comma_at at name i)) (simp append_assoc refl) in
          comes (subst (λ js. Leads s ms (At (HeadNamed (record x { names = js }) (with_parameter top name)) r o)) (sym (append_assoc x.names ns (at ∷ []))) h)
      parameter_next comma_at _ at = nothing

next : {s : Bool} {ls : List Lexeme} {x : StateShape} → Leads s ls x → (l : Lexeme) → After s (ls ++ l ∷ []) (step s x l)
next (begun f d e) l = after_moved (begin_next f d e l.token l.at) (simp append_assoc refl)
next (wants f g) l = after_moved (want_next f g l.token l.at) (simp append_assoc refl)
next (has f g h) l = after_moved (have_next f g h l.token l.at) (simp append_assoc refl)
next (accesses {at = at} {label = label} dot_at f g h) l = access_next dot_at at label f g h l.token l.at
next (dots dot_at f g h) l = dot_next dot_at f g h l.token l.at
next (lists f g h) l = list_next f g h l.token l.at
next {ls = ls} (opens {opener = opener} f) l = open_next ls opener f l.token l.at
next (lets {at = at} f d e) l = let_next at f d e l.token l.at
next (service_comes {at = at} open_at comma_at f g h) l = service_next f g h at open_at comma_at l.token l.at
next (service_named {at = at} {label_at = label_at} {label = label} open_at comma_at f g h) l = service_end_next f g h at open_at comma_at label_at label l.token l.at
next (groups {at = at} f g) l = group_next f g at l.token l.at
next (scatter_comes {at = at} open_at comma_at f g h) l = scatter_next f g h at open_at comma_at l.token l.at
next (serves {at = at} f g w) l = serve_next f g w at l.token l.at
next (serve_opens {at = at} open_at f g w) l = first_label_next f g w at open_at l.token l.at
next (label_comes {at = at} open_at comma_at f g w h) l = label_next f g h w at open_at comma_at l.token l.at
next (label_named {at = at} open_at f g w h) l = labels_next f g h w at open_at l.token l.at
next (else_comes {at = at} open_at close_at brace_at end_at f g c t) l = else_next at open_at close_at brace_at end_at f g c t l.token l.at
next (echoes {at = at} f g) l = echo_next f g at l.token l.at
next (echo_opens {at = at} open_at f g) l = text_next f g at open_at l.token l.at
next (echo_reads {at = at} {text = text} open_at text_at f g) l = echo_end_next f g at open_at text_at text l.token l.at
next (object_begins {at = at} f g) l = object_next f g at l.token l.at
next (field_comes f g h) l = field_next f g h l.token l.at
next (method_comes f g h) l = method_next f g h l.token l.at
next (method_named {label = label} at f g h) l = method_open_next f g h at label l.token l.at
next (self_comes {label = label} at open_at f g h) l = self_next f g h at open_at label l.token l.at
next (head_named f g h i) l = head_next f g h i l.token l.at
next (parameter_comes comma_at f g h i) l = parameter_next f g h i comma_at l.token l.at
next (ends h) l = nothing

-- what a run leads to
onward : {s : Bool} (ls ms : List Lexeme) (l : Lexeme) (y : Option StateShape) → After s (ls ++ l ∷ []) y
    → ((z : StateShape) → Leads s (ls ++ l ∷ []) z → After s ((ls ++ l ∷ []) ++ ms) (run s z ms)) → After s (ls ++ l ∷ ms) (y >>= λ z. run s z ms)
onward ls ms l None g h = nothing
onward ls ms l (Some z) (comes g) h = after_moved (h z g) (simp append_assoc refl)

pub ran : {s : Bool} {ls : List Lexeme} {x : StateShape} → Leads s ls x → (ms : List Lexeme) → After s (ls ++ ms) (run s x ms)
ran h [] = comes (leads_moved h (sym (append-nil _)))
ran {s = s} {ls = ls} {x = x} h (l ∷ ms) = onward ls ms l (step s x l) (next h l) (λ z g. ran {ls = ls ++ l ∷ []} g ms)

pub start_leads : (s : Bool) → Leads s [] start
start_leads s = begun top no_step refl

read_done : {s : Bool} {ls : List Lexeme} {t : Marked} → After s ls (Some (Done t)) → IsProgram s ls t
read_done (comes (ends h)) = h

-- what is read to its end is a program
pub sound : (s : Bool) (ls : List Lexeme) (t : Marked) → run s start ls ≡ Some (Done t) → IsProgram s ls t
sound s ls t e = read_done (subst (λ y. After s ls y) e (ran (start_leads s) ls))
