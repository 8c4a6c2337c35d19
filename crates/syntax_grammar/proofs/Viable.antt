-- What is begun can be completed to a program.
use Rattle.std.proofs.Common.{◌≡◌, Bool, List, [], ◌∷◌, ◌++◌, Some, refl, sym, ap, subst, ◌∙◌, append_assoc, pos}
use Rattle.std.proofs.lemmas.List.{append-nil}
use Rattle.syntax_tokens.specs.declared.token.Token.TheVariants as tokens
use Rattle.syntax_tokens.specs.Tokens.{Lexeme, lexeme}
use Rattle.syntax_grammar.specs.Nodes.{PartShape, part, number_at}
use Rattle.syntax_grammar.specs.Signs.{head, parameter, no_service, service, and_label, no_labels, labels}
use Rattle.syntax_grammar.specs.Grammar.{number, parentheses, object, word, choice, echo, IsPost, prim, get, argument, and_argument, post, prod, sum, IsExpr, tested, IsSeq, last, bind, no_fields, no_methods, IsProgram, Begins, active, serve, scatter, member}
use Rattle.syntax_grammar.specs.States.{KindShape, InField, OpenShape, StateShape}
use Rattle.syntax_grammar.specs.Machine.{run, start}
use Rattle.syntax_grammar.proofs.Parts.{Opened, top, in_parentheses, in_word, in_condition, in_then, in_else, in_list, in_more, in_scatter, in_arguments, in_member, in_index, in_binding, in_body, in_field, in_method, opener_token, Leads, begun, wants, has, accesses, dots, lists, opens, lets, else_comes, echoes, echo_opens, echo_reads, object_begins, field_comes, method_comes, method_named, self_comes, head_named, parameter_comes, ends, in_active, service_comes, service_named, groups, scatter_comes, serves, of_group, serve_opens, label_comes, label_named}
use Rattle.syntax_grammar.proofs.Wholes.{step_is, Body, terms, one_term, as_body, list_none, list_some, fresh_level, field_end, field_object, method_end, method_object}
use Rattle.syntax_grammar.proofs.Ends.{After, comes}
use Rattle.syntax_grammar.proofs.Sound.{ran, start_leads}

abbrev zero : List Lexeme
zero = lexeme (tokens.Number (pos 0)) 0 ∷ []

abbrev zero_part : PartShape
zero_part = part 0 (number_at 0 (pos 0))

zero_post : (s : Bool) → IsPost s zero zero_part
zero_post s = prim _ _ _ (number _ 0 (pos 0))

zero_expr : (s : Bool) → IsExpr s zero zero_part
zero_expr s = tested _ _ _ (sum _ _ _ (prod _ _ _ (post _ _ _ (zero_post s))))

zero_seq : (s : Bool) → IsSeq s zero 0 (number_at 0 (pos 0) ∷ [])
zero_seq s = last _ _ _ (zero_expr s)

zero_body : (s : Bool) (k : KindShape) → Body s k zero zero_part
zero_body s (InField x label) = one_term (zero_expr s)
zero_body s _ = terms refl (zero_seq s)

less : {s : Bool} {ls us : List Lexeme} (ms : List Lexeme) → Begins s us → us ≡ ls ++ ms → Begins s ls
less {s = s} {ls = ls} ms b e =
    record { rest = ms ++ b.rest; program = b.program; is = subst (λ l. IsProgram s l b.program) (ap (λ l. l ++ b.rest) e ∙ append_assoc ls ms b.rest) b.is }

ends_in : {s : Bool} {ls us : List Lexeme} {k : KindShape} {o : List OpenShape} {v : PartShape} → Opened s ls k o → Body s k us v → Begins s (ls ++ us)
ends_in top (terms _ h) = record { rest = lexeme tokens.End 0 ∷ []; program = _; is = record { sequence = _; start = _; terms = _; end = 0; is = h; whole = refl; term = refl } }
ends_in (in_parentheses {at = at} f g) (terms _ h) = less (lexeme tokens.Close 0 ∷ []) (ends_in f (as_body g (prim _ _ _ (parentheses _ at 0 _ _ _ h)))) (simp append_assoc refl)
ends_in (in_word {token = token} {head = named} {at = at} open_at f g w) (terms _ h) = less (lexeme tokens.Close 0 ∷ []) (ends_in f (as_body g (prim _ _ _ (word _ token named at open_at 0 _ _ _ w h)))) (simp append_assoc refl)
ends_in (in_active {at = at} open_at f g) (terms _ h) = less (lexeme tokens.Close 0 ∷ []) (ends_in f (as_body g (prim _ _ _ (active _ at open_at 0 _ _ _ _ _ _ h no_service)))) (simp append_assoc refl)
ends_in {s = s} (in_condition {at = at} open_at f g) (terms _ h) =
    less (lexeme tokens.Close 0 ∷ lexeme tokens.BraceOpen 0 ∷ (zero ++ lexeme tokens.BraceClose 0 ∷ lexeme tokens.Else 0 ∷ lexeme tokens.BraceOpen 0 ∷ (zero ++ lexeme tokens.BraceClose 0 ∷ [])))
    (ends_in f (as_body g (prim _ _ _ (choice _ at open_at 0 0 0 0 0 0 _ _ _ _ _ _ _ _ _ h (zero_seq s) (zero_seq s))))) (simp append_assoc refl)
ends_in {s = s} (in_then {at = at} open_at close_at brace_at f g c) (terms _ h) =
    less (lexeme tokens.BraceClose 0 ∷ lexeme tokens.Else 0 ∷ lexeme tokens.BraceOpen 0 ∷ (zero ++ lexeme tokens.BraceClose 0 ∷ []))
    (ends_in f (as_body g (prim _ _ _ (choice _ at open_at close_at brace_at 0 0 0 0 _ _ _ _ _ _ _ _ _ c h (zero_seq s))))) (simp append_assoc refl)
ends_in (in_else {at = at} open_at close_at brace_at end_at else_at else_open f g c t) (terms _ h) =
    less (lexeme tokens.BraceClose 0 ∷ []) (ends_in f (as_body g (prim _ _ _ (choice _ at open_at close_at brace_at end_at else_at else_open 0 _ _ _ _ _ _ _ _ _ c t h)))) (simp append_assoc refl)
ends_in (in_list f g p) (terms _ h) = less (lexeme tokens.Close 0 ∷ []) (ends_in f (as_body g (list_some 0 p (argument _ _ _ _ h)))) (simp append_assoc refl)
ends_in (in_more comma_at f g p a) (terms _ h) = less (lexeme tokens.Close 0 ∷ []) (ends_in f (as_body g (list_some 0 p (and_argument _ _ _ comma_at _ _ _ a h)))) (simp append_assoc refl)
ends_in {s = s} (in_scatter {at = at} open_at f g) (terms _ h) =
    less (lexeme tokens.Comma 0 ∷ lexeme (tokens.Name []) 0 ∷ lexeme tokens.Comma 0 ∷ (zero ++ lexeme tokens.Close 0 ∷ []))
    (ends_in f (as_body g (prim _ _ _ (scatter _ at open_at 0 0 0 0 [] _ _ _ _ _ _ h (zero_seq s))))) (simp append_assoc refl)
ends_in (in_arguments {at = at} {label_at = label_at} {label = label} open_at comma_at second_at f g c) (terms _ h) =
    less (lexeme tokens.Close 0 ∷ []) (ends_in f (as_body g (prim _ _ _ (scatter _ at open_at comma_at label_at second_at 0 label _ _ _ _ _ _ c h)))) (simp append_assoc refl)
ends_in {s = s} (in_member {at = at} open_at f g) (terms _ h) =
    less (lexeme tokens.Comma 0 ∷ (zero ++ lexeme tokens.Close 0 ∷ [])) (ends_in f (as_body g (prim _ _ _ (member _ at open_at 0 0 _ _ _ _ _ _ h (zero_seq s))))) (simp append_assoc refl)
ends_in (in_index {at = at} open_at comma_at f g c) (terms _ h) =
    less (lexeme tokens.Close 0 ∷ []) (ends_in f (as_body g (prim _ _ _ (member _ at open_at comma_at 0 _ _ _ _ _ _ c h)))) (simp append_assoc refl)
ends_in {s = s} (in_binding {x = x} {at = at} {name_at = name_at} equals_at f d e) (terms _ h) = less (lexeme tokens.In 0 ∷ zero) (ends_in f (terms e (step_is d (bind _ at name_at equals_at 0 x _ _ _ _ _ _ h (zero_seq s))))) (simp append_assoc refl)
ends_in (in_body {x = x} {at = at} {name_at = name_at} equals_at in_at f d e g) (terms _ h) = less [] (ends_in f (terms e (step_is d (bind _ at name_at equals_at in_at x _ _ _ _ _ _ g h)))) (simp (append_assoc, append-nil) refl)
ends_in (in_field {label = label} at equals_at f g i) (one_term h) = less (lexeme tokens.SquareClose 0 ∷ []) (ends_in f (as_body g (prim _ _ _ (field_object 0 (field_end at equals_at label i h))))) (simp append_assoc refl)
ends_in (in_field at equals_at f g i) (terms e h) = absurd cc
ends_in (in_method close_at equals_at f g i j) (terms _ h) =
    less (lexeme tokens.SquareClose 0 ∷ []) (ends_in f (as_body g (prim _ _ _ (method_object 0 (method_end close_at equals_at i j h))))) (simp append_assoc refl)

begun_in : {s : Bool} {ls : List Lexeme} {k : KindShape} {o : List OpenShape} → Opened s ls k o → Begins s ls
begun_in {s = s} {k = k} f = less zero (ends_in f (zero_body s k)) refl

begins : {s : Bool} {ls : List Lexeme} {x : StateShape} → Leads s ls x → Begins s ls
begins {s = s} (begun f d e) = less zero (ends_in f (as_body (fresh_level d) (zero_post s))) (simp append_assoc refl)
begins {s = s} (wants f g) = less zero (ends_in f (as_body g (zero_post s))) (simp append_assoc refl)
begins (has f g h) = ends_in f (as_body g h)
begins (accesses {at = at} {label = label} dot_at f g h) = ends_in f (as_body g (get _ _ _ dot_at at label h))
begins (dots dot_at f g h) = less (lexeme (tokens.Name []) 0 ∷ []) (ends_in f (as_body g (get _ _ _ dot_at 0 [] h))) (simp append_assoc refl)
begins (lists f g h) = less (lexeme tokens.Close 0 ∷ []) (ends_in f (as_body g (list_none 0 h))) (simp append_assoc refl)
begins (opens {opener = opener} f) = less (lexeme (opener_token opener) 0 ∷ []) (begun_in (f 0)) refl
begins (lets {at = at} f d e) = less (lexeme (tokens.Name []) 0 ∷ lexeme tokens.Equals 0 ∷ []) (begun_in (in_binding {x = []} {at = at} {name_at = 0} 0 f d e)) (simp append_assoc refl)
begins (service_comes {at = at} open_at comma_at f g h) =
    less (lexeme (tokens.Name []) 0 ∷ lexeme tokens.Close 0 ∷ []) (ends_in f (as_body g (prim _ _ _ (active _ at open_at 0 _ _ _ _ _ _ h (service comma_at 0 []))))) (simp append_assoc refl)
begins (service_named {at = at} {label_at = label_at} {label = label} open_at comma_at f g h) =
    less (lexeme tokens.Close 0 ∷ []) (ends_in f (as_body g (prim _ _ _ (active _ at open_at 0 _ _ _ _ _ _ h (service comma_at label_at label))))) (simp append_assoc refl)
begins (groups {at = at} f g) = less (lexeme tokens.Open 0 ∷ lexeme tokens.Close 0 ∷ []) (ends_in f (as_body g (list_none 0 (of_group {at = at} 0)))) (simp append_assoc refl)
begins (scatter_comes {at = at} open_at comma_at f g h) =
    less (lexeme (tokens.Name []) 0 ∷ lexeme tokens.Comma 0 ∷ []) (begun_in (in_arguments {at = at} {label_at = 0} {label = []} open_at comma_at 0 f g h)) (simp append_assoc refl)
begins (serves {at = at} f g w) = less (lexeme tokens.Open 0 ∷ lexeme tokens.Close 0 ∷ []) (ends_in f (as_body g (prim _ _ _ (serve _ _ _ at 0 0 _ _ _ w no_labels)))) (simp append_assoc refl)
begins (serve_opens {at = at} open_at f g w) = less (lexeme tokens.Close 0 ∷ []) (ends_in f (as_body g (prim _ _ _ (serve _ _ _ at open_at 0 _ _ _ w no_labels)))) (simp append_assoc refl)
begins (label_comes {at = at} open_at comma_at f g w h) =
    less (lexeme (tokens.Name []) 0 ∷ lexeme tokens.Close 0 ∷ []) (ends_in f (as_body g (prim _ _ _ (serve _ _ _ at open_at 0 _ _ _ w (labels _ _ _ (and_label _ _ _ comma_at 0 [] h)))))) (simp append_assoc refl)
begins (label_named {at = at} open_at f g w h) = less (lexeme tokens.Close 0 ∷ []) (ends_in f (as_body g (prim _ _ _ (serve _ _ _ at open_at 0 _ _ _ w (labels _ _ _ h))))) (simp append_assoc refl)
begins (else_comes {at = at} open_at close_at brace_at end_at f g c t) =
    less (lexeme tokens.Else 0 ∷ lexeme tokens.BraceOpen 0 ∷ []) (begun_in (in_else {at = at} open_at close_at brace_at end_at 0 0 f g c t)) (simp append_assoc refl)
begins (echoes {at = at} f g) = less (lexeme tokens.Open 0 ∷ lexeme (tokens.Text []) 0 ∷ lexeme tokens.Close 0 ∷ []) (ends_in f (as_body g (prim _ _ _ (echo _ at 0 0 0 [])))) (simp append_assoc refl)
begins (echo_opens {at = at} open_at f g) = less (lexeme (tokens.Text []) 0 ∷ lexeme tokens.Close 0 ∷ []) (ends_in f (as_body g (prim _ _ _ (echo _ at open_at 0 0 [])))) (simp append_assoc refl)
begins (echo_reads {at = at} {text = text} open_at text_at f g) = less (lexeme tokens.Close 0 ∷ []) (ends_in f (as_body g (prim _ _ _ (echo _ at open_at text_at 0 text)))) (simp append_assoc refl)
begins (object_begins {at = at} f g) = less (lexeme tokens.SquareClose 0 ∷ []) (ends_in f (as_body g (prim _ _ _ (object _ at 0 _ _ _ _ _ _ (no_fields _) (no_methods _))))) (simp append_assoc refl)
begins (field_comes f g h) = less (lexeme (tokens.Name []) 0 ∷ lexeme tokens.Equals 0 ∷ []) (begun_in (in_field {label = []} 0 0 f g h)) (simp append_assoc refl)
begins (method_comes f g h) =
    less (lexeme (tokens.Name []) 0 ∷ lexeme tokens.Open 0 ∷ lexeme (tokens.Name []) 0 ∷ lexeme tokens.Close 0 ∷ lexeme tokens.Equals 0 ∷ []) (begun_in (in_method 0 0 f g h (head 0 0 0 [] []))) (simp append_assoc refl)
begins (method_named {label = label} at f g h) =
    less (lexeme tokens.Open 0 ∷ lexeme (tokens.Name []) 0 ∷ lexeme tokens.Close 0 ∷ lexeme tokens.Equals 0 ∷ []) (begun_in (in_method 0 0 f g h (head at 0 0 label []))) (simp append_assoc refl)
begins (self_comes {label = label} at open_at f g h) =
    less (lexeme (tokens.Name []) 0 ∷ lexeme tokens.Close 0 ∷ lexeme tokens.Equals 0 ∷ []) (begun_in (in_method 0 0 f g h (head at open_at 0 label []))) (simp append_assoc refl)
begins (head_named f g h i) = less (lexeme tokens.Close 0 ∷ lexeme tokens.Equals 0 ∷ []) (begun_in (in_method 0 0 f g h i)) (simp append_assoc refl)
begins (parameter_comes comma_at f g h i) =
    less (lexeme (tokens.Name []) 0 ∷ lexeme tokens.Close 0 ∷ lexeme tokens.Equals 0 ∷ []) (begun_in (in_method 0 0 f g h (parameter _ _ _ comma_at 0 [] i))) (simp append_assoc refl)
begins (ends {s = s} {ls = ls} {t = t} h) = record { rest = []; program = t; is = subst (λ l. IsProgram s l t) (sym (append-nil ls)) h }

read_some : {s : Bool} {ls : List Lexeme} {x : StateShape} → After s ls (Some x) → Begins s ls
read_some (comes h) = begins h

-- what is read begins a program
pub viable : (s : Bool) (ls : List Lexeme) (x : StateShape) → run s start ls ≡ Some x → Begins s ls
viable s ls x e = read_some (subst (λ y. After s ls y) e (ran (start_leads s) ls))
