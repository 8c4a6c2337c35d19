-- What a token that ends a sequence leaves is in the grammar.
use Rattle.std.proofs.Common.{◌≡◌, ℕ, Bool, true, false, List, [], ◌∷◌, ◌++◌, Option, Some, None, refl, subst, ◌∙◌, append_assoc}
use Rattle.std.proofs.lemmas.List.{append-nil}
use Rattle.syntax_tokens.specs.declared.token.Token.TheVariants as tokens
use Rattle.syntax_tokens.specs.Tokens.{Lexeme, lexeme}
use Rattle.syntax_grammar.specs.Nodes.{PartShape, ObjectShape, made}
use Rattle.syntax_grammar.specs.Grammar.{IsPrim, parentheses, word, choice, IsPost, prim, argument, and_argument, fields, bind, active, scatter, member}
use Rattle.syntax_grammar.specs.States.{KindShape, OpenShape, Plain, Have, FieldNaming, MethodNaming, StateShape, At, has_terms, fresh}
use Rattle.syntax_grammar.specs.Closings as closings
use Rattle.syntax_grammar.specs.Closings.{FinishedShape, finished, over, finish, concluded, first_mode, close, close_brace, close_square, comma, bound, ended}
use Rattle.syntax_grammar.proofs.Parts.{no_step, InLevel, next_field, a_method, next_method, Fielded, fielded, Methoded, methoded, Opened, top, in_parentheses, in_word, in_condition, in_then, in_else, in_list, in_more, in_scatter, in_arguments, in_member, in_index, in_binding, in_body, in_field, in_method, Leads, begun, wants, has, opens, else_comes, field_comes, method_comes, ends, in_active, service_comes, scatter_comes}
use Rattle.syntax_grammar.proofs.Wholes.{leads_moved, opened_moved, step_is, Body, terms, one_term, as_body, list_some, fresh_level, field_end, field_object, method_end, method_object}
use Rattle.syntax_grammar.specs.Signs.{no_service}

-- a sequence that is over, where it was opened
pub data Over : Bool → List Lexeme → FinishedShape → Type 0 where
  ready : {s : Bool} {ls us : List Lexeme} {k : KindShape} {o : List OpenShape} {v : PartShape} → Opened s ls k o → Body s k us v → Over s (ls ++ us) (finished k v o)

pub over_moved : {s : Bool} {ls ms : List Lexeme} {f : FinishedShape} → Over s ls f → ls ≡ ms → Over s ms f
over_moved {s = s} {f = f} h e = subst (λ l. Over s l f) e h

pub over_is : {s : Bool} {ls us : List Lexeme} {k : KindShape} {o : List OpenShape} {v : PartShape} → Opened s ls k o → Body s k us v → Over s (ls ++ us) (over k v o)
over_is (in_body equals_at in_at f d e g) (terms _ h) = over_moved (over_is f (terms e (step_is d (bind _ _ _ equals_at in_at _ _ _ _ _ _ _ g h)))) (simp append_assoc refl)
over_is f h = ready f h

pub finish_is : {s : Bool} {ls us vs : List Lexeme} {r : OpenShape} {o : List OpenShape} {x : PartShape} → Opened s ls r.kind o → InLevel s us r → IsPost s vs x → Over s (ls ++ (us ++ vs)) (finish x r o)
finish_is f g h = over_is f (as_body g h)

-- what a lexeme leaves
pub data After : Bool → List Lexeme → Option StateShape → Type 0 where
  nothing : {s : Bool} {ls : List Lexeme} → After s ls None
  comes : {s : Bool} {ls : List Lexeme} {x : StateShape} → Leads s ls x → After s ls (Some x)

pub after_moved : {s : Bool} {ls ms : List Lexeme} {x : Option StateShape} → After s ls x → ls ≡ ms → After s ms x
after_moved {s = s} {x = x} h e = subst (λ l. After s l x) e h

pub opened_leads : {s : Bool} {ls : List Lexeme} {k : KindShape} {o : List OpenShape} (b : Bool) → has_terms k ≡ b → Opened s ls k o → Leads s ls (At (first_mode b) (fresh k) o)
opened_leads true e f = leads_moved (begun f no_step e) (append-nil _)
opened_leads false e f = leads_moved (wants f (fresh_level no_step)) (append-nil _)

pub opened_is : {s : Bool} {ls ms : List Lexeme} {k : KindShape} {r : OpenShape} {o : List OpenShape} → Opened s ls k (r ∷ o) → ls ≡ ms → After s ms (closings.opened k r o)
opened_is {k = k} f e = comes (leads_moved (opened_leads (has_terms k) refl f) e)

pub has_prim : {s : Bool} {ls us vs ms : List Lexeme} {r : OpenShape} {o : List OpenShape} {x : PartShape} → Opened s ls r.kind o → InLevel s us r → IsPrim s vs x → ls ++ (us ++ vs) ≡ ms → After s ms (Some (At (Have (Plain x)) r o))
has_prim f g h e = comes (leads_moved (has f g (prim _ _ _ h)) e)

pub close_is : {s : Bool} {ls : List Lexeme} {f : FinishedShape} (at : ℕ) → Over s ls f → After s (ls ++ lexeme tokens.Close at ∷ []) (concluded close f)
close_is at (ready (in_parentheses f g) (terms _ h)) = has_prim f g (parentheses _ _ at _ _ _ h) (simp append_assoc refl)
close_is at (ready (in_word open_at f g w) (terms _ h)) = has_prim f g (word _ _ _ _ open_at at _ _ _ w h) (simp append_assoc refl)
close_is at (ready (in_active open_at f g) (terms _ h)) = has_prim f g (active _ _ open_at at _ _ _ _ _ _ h no_service) (simp append_assoc refl)
close_is at (ready (in_condition open_at f g) (terms _ h)) = comes (opens (λ i. opened_moved (in_then open_at at i f g h) (simp append_assoc refl)))
close_is at (ready (in_list f g p) (terms _ h)) = comes (leads_moved (has f g (list_some at p (argument _ _ _ _ h))) (simp append_assoc refl))
close_is at (ready (in_more comma_at f g p a) (terms _ h)) = comes (leads_moved (has f g (list_some at p (and_argument _ _ _ comma_at _ _ _ a h))) (simp append_assoc refl))
close_is at (ready (in_arguments open_at comma_at second_at f g c) (terms _ h)) = has_prim f g (scatter _ _ open_at comma_at _ second_at at _ _ _ _ _ _ _ c h) (simp append_assoc refl)
close_is at (ready (in_index open_at comma_at f g c) (terms _ h)) = has_prim f g (member _ _ open_at comma_at at _ _ _ _ _ _ c h) (simp append_assoc refl)
close_is at (ready (in_scatter a f g) h) = nothing
close_is at (ready (in_member a f g) h) = nothing
close_is at (ready top h) = nothing
close_is at (ready (in_then a b c f g i) h) = nothing
close_is at (ready (in_else a b c d e i f g j l) h) = nothing
close_is at (ready (in_binding a f d e) h) = nothing
close_is at (ready (in_body a b f d e g) h) = nothing
close_is at (ready (in_field a b f g i) h) = nothing
close_is at (ready (in_method a b f g i j) h) = nothing

pub brace_is : {s : Bool} {ls : List Lexeme} {f : FinishedShape} (at : ℕ) → Over s ls f → After s (ls ++ lexeme tokens.BraceClose at ∷ []) (concluded close_brace f)
brace_is at (ready (in_then open_at close_at brace_at f g c) (terms _ h)) = comes (leads_moved (else_comes open_at close_at brace_at at f g c h) (simp append_assoc refl))
brace_is at (ready (in_else open_at close_at brace_at end_at else_at else_open f g c t) (terms _ h)) =
    has_prim f g (choice _ _ open_at close_at brace_at end_at else_at else_open at _ _ _ _ _ _ _ _ _ c t h) (simp append_assoc refl)
brace_is at (ready top h) = nothing
brace_is at (ready (in_parentheses f g) h) = nothing
brace_is at (ready (in_word a f g w) h) = nothing
brace_is at (ready (in_active a f g) h) = nothing
brace_is at (ready (in_condition a f g) h) = nothing
brace_is at (ready (in_list f g p) h) = nothing
brace_is at (ready (in_more a f g p d) h) = nothing
brace_is at (ready (in_scatter a f g) h) = nothing
brace_is at (ready (in_arguments a b c f g d) h) = nothing
brace_is at (ready (in_member a f g) h) = nothing
brace_is at (ready (in_index a b f g d) h) = nothing
brace_is at (ready (in_binding a f d e) h) = nothing
brace_is at (ready (in_body a b f d e g) h) = nothing
brace_is at (ready (in_field a b f g i) h) = nothing
brace_is at (ready (in_method a b f g i j) h) = nothing

pub field_square : {s : Bool} {ls us vs ms : List Lexeme} {r : OpenShape} {o : List OpenShape} {x : ObjectShape} (at : ℕ) → Opened s ls r.kind o → InLevel s us r → Fielded s vs x
    → ls ++ (us ++ (vs ++ lexeme tokens.SquareClose at ∷ [])) ≡ ms → After s ms (Some (At (Have (Plain (made x))) r o))
field_square at f g h e = has_prim f g (field_object at h) e

pub method_square : {s : Bool} {ls us vs ms : List Lexeme} {r : OpenShape} {o : List OpenShape} {x : ObjectShape} (at : ℕ) → Opened s ls r.kind o → InLevel s us r → Methoded s vs x
    → ls ++ (us ++ (vs ++ lexeme tokens.SquareClose at ∷ [])) ≡ ms → After s ms (Some (At (Have (Plain (made x))) r o))
method_square at f g h e = has_prim f g (method_object at h) e

pub square_is : {s : Bool} {ls : List Lexeme} {f : FinishedShape} (at : ℕ) → Over s ls f → After s (ls ++ lexeme tokens.SquareClose at ∷ []) (concluded close_square f)
square_is at (ready (in_field name_at equals_at f g i) (one_term h)) = field_square at f g (field_end name_at equals_at _ i h) (simp append_assoc refl)
square_is at (ready (in_field name_at equals_at f g i) (terms e h)) = absurd cc
square_is at (ready (in_method close_at equals_at f g i j) (terms _ h)) = method_square at f g (method_end close_at equals_at i j h) (simp append_assoc refl)
square_is at (ready top h) = nothing
square_is at (ready (in_parentheses f g) h) = nothing
square_is at (ready (in_word a f g w) h) = nothing
square_is at (ready (in_active a f g) h) = nothing
square_is at (ready (in_condition a f g) h) = nothing
square_is at (ready (in_then a b c f g i) h) = nothing
square_is at (ready (in_else a b c d e i f g j l) h) = nothing
square_is at (ready (in_list f g p) h) = nothing
square_is at (ready (in_more a f g p d) h) = nothing
square_is at (ready (in_scatter a f g) h) = nothing
square_is at (ready (in_arguments a b c f g d) h) = nothing
square_is at (ready (in_member a f g) h) = nothing
square_is at (ready (in_index a b f g d) h) = nothing
square_is at (ready (in_binding a f d e) h) = nothing
square_is at (ready (in_body a b f d e g) h) = nothing

-- another field or method
pub field_comma : {s : Bool} {ls us vs ms : List Lexeme} {r : OpenShape} {o : List OpenShape} {x : ObjectShape} (at : ℕ) → Opened s ls r.kind o → InLevel s us r → Fielded s vs x
    → ls ++ (us ++ (vs ++ lexeme tokens.Comma at ∷ [])) ≡ ms → After s ms (Some (At (FieldNaming x) r o))
field_comma at f g (fielded h) e = comes (leads_moved (field_comes f g (next_field at h)) e)

pub field_semicolon : {s : Bool} {ls us vs ms : List Lexeme} {r : OpenShape} {o : List OpenShape} {x : ObjectShape} (at : ℕ) → Opened s ls r.kind o → InLevel s us r → Fielded s vs x
    → ls ++ (us ++ (vs ++ lexeme tokens.Semicolon at ∷ [])) ≡ ms → After s ms (Some (At (MethodNaming x) r o))
field_semicolon at f g (fielded h) e = comes (leads_moved (method_comes f g (a_method at (fields _ _ _ _ h))) e)

pub method_comma : {s : Bool} {ls us vs ms : List Lexeme} {r : OpenShape} {o : List OpenShape} {x : ObjectShape} (at : ℕ) → Opened s ls r.kind o → InLevel s us r → Methoded s vs x
    → ls ++ (us ++ (vs ++ lexeme tokens.Comma at ∷ [])) ≡ ms → After s ms (Some (At (MethodNaming x) r o))
method_comma at f g (methoded c i h) e = comes (leads_moved (method_comes f g (next_method c at i h)) (simp append_assoc refl ∙ e))

pub comma_is : {s : Bool} {ls : List Lexeme} {f : FinishedShape} (at : ℕ) → Over s ls f → After s (ls ++ lexeme tokens.Comma at ∷ []) (concluded comma f)
comma_is at (ready (in_active open_at f g) (terms _ h)) = comes (leads_moved (service_comes open_at at f g h) (simp append_assoc refl))
comma_is at (ready (in_scatter open_at f g) (terms _ h)) = comes (leads_moved (scatter_comes open_at at f g h) (simp append_assoc refl))
comma_is at (ready (in_member open_at f g) (terms _ h)) = comes (leads_moved (begun (in_index open_at at f g h) no_step refl) (simp (append_assoc, append-nil) refl))
comma_is at (ready (in_list f g p) (terms _ h)) = comes (leads_moved (begun (in_more at f g p (argument _ _ _ _ h)) no_step refl) (simp (append_assoc, append-nil) refl))
comma_is at (ready (in_more comma_at f g p a) (terms _ h)) =
    comes (leads_moved (begun (in_more at f g p (and_argument _ _ _ comma_at _ _ _ a h)) no_step refl) (simp (append_assoc, append-nil) refl))
comma_is at (ready (in_field name_at equals_at f g i) (one_term h)) = field_comma at f g (field_end name_at equals_at _ i h) (simp append_assoc refl)
comma_is at (ready (in_field name_at equals_at f g i) (terms e h)) = absurd cc
comma_is at (ready (in_method close_at equals_at f g i j) (terms _ h)) = method_comma at f g (method_end close_at equals_at i j h) (simp append_assoc refl)
comma_is at (ready top h) = nothing
comma_is at (ready (in_parentheses f g) h) = nothing
comma_is at (ready (in_word a f g w) h) = nothing
comma_is at (ready (in_arguments a b c f g d) h) = nothing
comma_is at (ready (in_index a b f g d) h) = nothing
comma_is at (ready (in_condition a f g) h) = nothing
comma_is at (ready (in_then a b c f g i) h) = nothing
comma_is at (ready (in_else a b c d e i f g j l) h) = nothing
comma_is at (ready (in_binding a f d e) h) = nothing
comma_is at (ready (in_body a b f d e g) h) = nothing

pub bound_is : {s : Bool} {ls : List Lexeme} {f : FinishedShape} (at : ℕ) → Over s ls f → After s (ls ++ lexeme tokens.In at ∷ []) (concluded bound f)
bound_is at (ready (in_binding equals_at f d e) (terms _ h)) = comes (leads_moved (begun (in_body equals_at at f d e h) no_step refl) (simp (append_assoc, append-nil) refl))
bound_is at (ready top h) = nothing
bound_is at (ready (in_parentheses f g) h) = nothing
bound_is at (ready (in_word a f g w) h) = nothing
bound_is at (ready (in_active a f g) h) = nothing
bound_is at (ready (in_condition a f g) h) = nothing
bound_is at (ready (in_then a b c f g i) h) = nothing
bound_is at (ready (in_else a b c d e i f g j l) h) = nothing
bound_is at (ready (in_list f g p) h) = nothing
bound_is at (ready (in_more a f g p d) h) = nothing
bound_is at (ready (in_scatter a f g) h) = nothing
bound_is at (ready (in_arguments a b c f g d) h) = nothing
bound_is at (ready (in_member a f g) h) = nothing
bound_is at (ready (in_index a b f g d) h) = nothing
bound_is at (ready (in_body a b f d e g) h) = nothing
bound_is at (ready (in_field a b f g i) h) = nothing
bound_is at (ready (in_method a b f g i j) h) = nothing

pub ended_is : {s : Bool} {ls : List Lexeme} {f : FinishedShape} (at : ℕ) → Over s ls f → After s (ls ++ lexeme tokens.End at ∷ []) (ended f)
ended_is at (ready top (terms _ h)) = comes (ends (record { sequence = _; start = _; terms = _; end = at; is = h; whole = refl; term = refl }))
ended_is at (ready (in_parentheses f g) h) = nothing
ended_is at (ready (in_word a f g w) h) = nothing
ended_is at (ready (in_active a f g) h) = nothing
ended_is at (ready (in_condition a f g) h) = nothing
ended_is at (ready (in_then a b c f g i) h) = nothing
ended_is at (ready (in_else a b c d e i f g j l) h) = nothing
ended_is at (ready (in_list f g p) h) = nothing
ended_is at (ready (in_more a f g p d) h) = nothing
ended_is at (ready (in_scatter a f g) h) = nothing
ended_is at (ready (in_arguments a b c f g d) h) = nothing
ended_is at (ready (in_member a f g) h) = nothing
ended_is at (ready (in_index a b f g d) h) = nothing
ended_is at (ready (in_binding a f d e) h) = nothing
ended_is at (ready (in_body a b f d e g) h) = nothing
ended_is at (ready (in_field a b f g i) h) = nothing
ended_is at (ready (in_method a b f g i j) h) = nothing
