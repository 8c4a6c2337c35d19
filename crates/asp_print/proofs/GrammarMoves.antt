-- The grammar, where lexemes get other places.
use Rattle.std.proofs.Common.{◌≡◌, ℕ, Bool, List, [], ◌∷◌, ◌++◌, map, Option, refl, sym, ap, ◌∙◌, subst}
use Rattle.std.proofs.lemmas.List.{map-append}
use Rattle.asp_model.specs.Names.{Text}
use Rattle.asp_model.specs.Term.{MethodHead, Call, Group}
use Rattle.asp_model.specs.Marked.{Marked, MarkedList, marked, and_marked}
use Rattle.asp_model.specs.Shapes.{MarkedMethod}
use Rattle.syntax_tokens.specs.declared.token.Token.{Token}
use Rattle.syntax_tokens.specs.declared.token.Token.TheVariants as tokens
use Rattle.syntax_tokens.specs.Tokens.{Lexeme, lexeme}
use Rattle.syntax_grammar.specs.Nodes.{PartShape, part, terms_at, in_parentheses, word_at, if_at, let_at, active_at, scatter_at, member_at, mark_at, named_mark, called, method, with_parameter}
use Rattle.syntax_grammar.specs.Signs.{IsHead, head, parameter, IsService, no_service, service, IsLabels, first_label, and_label, IsLabelPart, no_labels, labels}
use Rattle.syntax_grammar.specs.Grammar.{IsPrim, number, variable, parentheses, object, word, active, serve, choice, echo, group_none, group, scatter, member, IsPost, prim, get, call_none, call, IsArgs, argument, and_argument, IsFields, field, and_field, IsMethods, first_method, and_method, IsFieldPart, no_fields, fields, IsMethodPart, no_methods, methods, IsProd, post, times, IsSum, prod, plus, IsTest, sum, test, IsExpr, tested, assign, IsSeq, last, then, bind}
use Rattle.asp_print.specs.Places.{moved}
use Rattle.asp_print.proofs.MovingLemmas.{moved_all, moved_part, moved_field, moved_method, along, split, all_moved, terms_moved, parentheses_moved, put_moved, may_put_moved, object_moved}

-- Names

labels_moved : (f : ℕ → ℕ) {ls : List Lexeme} {ns : List ℕ} {xs : List Text} → IsLabels ls ns xs → IsLabels (moved_all f ls) (map f ns) xs
labels_moved f (first_label at label) = first_label (f at) label
labels_moved f (and_label ls ns xs comma_at at label h) =
    along (λ (us : List Lexeme) (ms : List ℕ). IsLabels us ms (xs ++ label ∷ [])) (and_label (moved_all f ls) (map f ns) xs (f comma_at) (f at) label (labels_moved f h))
    (split f ls (lexeme tokens.Comma comma_at ∷ lexeme (tokens.Name label) at ∷ [])) (sym (map-append f ns (at ∷ [])))

label_part_moved : (f : ℕ → ℕ) {ls : List Lexeme} {ns : List ℕ} {xs : List Text} → IsLabelPart ls ns xs → IsLabelPart (moved_all f ls) (map f ns) xs
label_part_moved f no_labels = no_labels
label_part_moved f (labels ls ns xs h) = labels (moved_all f ls) (map f ns) xs (labels_moved f h)

service_moved : (f : ℕ → ℕ) {ls : List Lexeme} {ns : List ℕ} {label : Option Text} → IsService ls ns label → IsService (moved_all f ls) (map f ns) label
service_moved f no_service = no_service
service_moved f (service comma_at at label) = service (f comma_at) (f at) label

head_moved : (f : ℕ → ℕ) {ls : List Lexeme} {ns : List ℕ} {h : MethodHead} → IsHead ls ns h → IsHead (moved_all f ls) (map f ns) h
head_moved f (head at open_at slf_at label slf) = head (f at) (f open_at) (f slf_at) label slf
head_moved f (parameter ls ns h comma_at at x i) =
    along (λ (us : List Lexeme) (ms : List ℕ). IsHead us ms (with_parameter h x)) (parameter (moved_all f ls) (map f ns) h (f comma_at) (f at) x (head_moved f i))
    (split f ls (lexeme tokens.Comma comma_at ∷ lexeme (tokens.Name x) at ∷ [])) (sym (map-append f ns (at ∷ [])))

-- the same with the places of names
named : {A : Type 0} (R : List Lexeme → List ℕ → A → Type 0) {ls us : List Lexeme} {ns ms : List ℕ} {x y : A} → R ls ns x → ls ≡ us → ns ≡ ms → x ≡ y → R us ms y
named R {us = us} {ns = ns} {ms = ms} {x = x} h e d i =
    let P : List Lexeme → Type 0 = λ l. R l ns x in
    let Q : List ℕ → Type 0 = λ n. R us n x in
    subst (R us ms) i (subst Q d (subst P e h))

called_moved : (f : ℕ → ℕ) (p : PartShape) (at : ℕ) (label : Text) (ts : List Marked) → called (moved_part f p) (f at) label (map (moved f) ts) ≡ moved_part f (called p at label ts)
called_moved f p at label ts = ap (λ (us : MarkedList). part (f p.start) (marked (Call label) (named_mark (f p.start) (f at ∷ [])) (and_marked (moved f p.term) us))) (sym (all_moved f ts))

abbrev onto : (ℕ → ℕ) → Token → ℕ → List Lexeme → List Lexeme
onto f t at ls = lexeme t (f at) ∷ ls

mutual
  prim_moved : (f : ℕ → ℕ) {s : Bool} {ls : List Lexeme} {p : PartShape} → IsPrim s ls p → IsPrim s (moved_all f ls) (moved_part f p)
  prim_moved f (number s at n) = number s (f at) n
  prim_moved f (variable s at x) = variable s (f at) x
  prim_moved f (parentheses s at close_at ls n ts h) =
      along (IsPrim s) (parentheses s (f at) (f close_at) (moved_all f ls) (f n) (map (moved f) ts) (seq_moved f h))
      (ap (onto f tokens.Open at) (split f ls (lexeme tokens.Close close_at ∷ [])))
      (ap (part (f at)) (ap in_parentheses (terms_moved f n ts) ∙ parentheses_moved f (terms_at n ts)))
  prim_moved f (object s at close_at ls us ns ms fs xs h g) =
      let close : List Lexeme = lexeme tokens.SquareClose close_at ∷ [] in
      along (IsPrim s) (object s (f at) (f close_at) (moved_all f ls) (moved_all f us) (map f ns) (map f ms) (map (moved_field f) fs) (map (moved_method f) xs) (field_part_moved f h) (method_part_moved f g))
      (ap (onto f tokens.SquareOpen at) (ap (λ (ys : List Lexeme). moved_all f ls ++ ys) (split f us close) ∙ split f ls (us ++ close)))
      (ap (part (f at)) (object_moved f at ns ms fs xs))
  prim_moved f (word s token top at open_at close_at ls n ts w h) =
      along (IsPrim s) (word s token top (f at) (f open_at) (f close_at) (moved_all f ls) (f n) (map (moved f) ts) w (seq_moved f h))
      (ap (λ (ys : List Lexeme). lexeme token (f at) ∷ lexeme tokens.Open (f open_at) ∷ ys) (split f ls (lexeme tokens.Close close_at ∷ [])))
      (ap (λ (t : Marked). part (f at) (word_at top (f at) t)) (terms_moved f n ts))
  prim_moved f (active s at open_at close_at ls us n ts ns label h i) =
      let close : List Lexeme = lexeme tokens.Close close_at ∷ [] in
      along (IsPrim s) (active s (f at) (f open_at) (f close_at) (moved_all f ls) (moved_all f us) (f n) (map (moved f) ts) (map f ns) label (seq_moved f h) (service_moved f i))
      (ap (λ (ys : List Lexeme). lexeme tokens.Active (f at) ∷ lexeme tokens.Open (f open_at) ∷ ys) (ap (λ (ys : List Lexeme). moved_all f ls ++ ys) (split f us close) ∙ split f ls (us ++ close)))
      (ap (λ (t : Marked). part (f at) (active_at (f at) (map f ns) label t)) (terms_moved f n ts))
  prim_moved f (serve s token polls at open_at close_at ls ns xs w h) =
      along (IsPrim s) (serve s token polls (f at) (f open_at) (f close_at) (moved_all f ls) (map f ns) xs w (label_part_moved f h))
      (ap (λ (ys : List Lexeme). lexeme token (f at) ∷ lexeme tokens.Open (f open_at) ∷ ys) (split f ls (lexeme tokens.Close close_at ∷ []))) refl
  prim_moved f (choice s at open_at close_at then_open then_close else_at else_open else_close ls us vs n m k cs ts es h g i) =
      let ending : List Lexeme = lexeme tokens.BraceClose else_close ∷ [] in
      let elses : List Lexeme = lexeme tokens.BraceClose then_close ∷ lexeme tokens.Else else_at ∷ lexeme tokens.BraceOpen else_open ∷ (vs ++ ending) in
      let thens : List Lexeme = lexeme tokens.Close close_at ∷ lexeme tokens.BraceOpen then_open ∷ (us ++ elses) in
      let third : List Lexeme → List Lexeme = λ ys. moved_all f us ++ lexeme tokens.BraceClose (f then_close) ∷ lexeme tokens.Else (f else_at) ∷ lexeme tokens.BraceOpen (f else_open) ∷ ys in
      let second : List Lexeme → List Lexeme = λ ys. moved_all f ls ++ lexeme tokens.Close (f close_at) ∷ lexeme tokens.BraceOpen (f then_open) ∷ ys in
      along (IsPrim s)
      (choice s (f at) (f open_at) (f close_at) (f then_open) (f then_close) (f else_at) (f else_open) (f else_close) (moved_all f ls) (moved_all f us) (moved_all f vs) (f n) (f m) (f k) (map (moved f) cs) (map (moved f) ts) (map (moved f) es)
      (seq_moved f h) (seq_moved f g) (seq_moved f i))
      (ap (λ (ys : List Lexeme). lexeme tokens.If (f at) ∷ lexeme tokens.Open (f open_at) ∷ ys)
      (ap second (ap third (split f vs ending) ∙ split f us elses) ∙ split f ls thens))
      (λ j. part (f at) (if_at (f at) (terms_moved f n cs j) (terms_moved f m ts j) (terms_moved f k es j)))
  prim_moved f (echo s at open_at text_at close_at text) = echo s (f at) (f open_at) (f text_at) (f close_at) text
  prim_moved f (group_none s at open_at close_at) = group_none s (f at) (f open_at) (f close_at)
  prim_moved f (group s at open_at close_at ls ts h) =
      along (IsPrim s) (group s (f at) (f open_at) (f close_at) (moved_all f ls) (map (moved f) ts) (args_moved f h))
      (ap (λ (ys : List Lexeme). lexeme tokens.Group (f at) ∷ lexeme tokens.Open (f open_at) ∷ ys) (split f ls (lexeme tokens.Close close_at ∷ [])))
      (ap (λ (us : MarkedList). part (f at) (marked Group (mark_at (f at)) us)) (sym (all_moved f ts)))
  prim_moved f (scatter s at open_at comma_at label_at second_at close_at label ls us n m ts xs h g) =
      let close : List Lexeme = lexeme tokens.Close close_at ∷ [] in
      let lasts : List Lexeme = lexeme tokens.Comma comma_at ∷ lexeme (tokens.Name label) label_at ∷ lexeme tokens.Comma second_at ∷ (us ++ close) in
      along (IsPrim s)
      (scatter s (f at) (f open_at) (f comma_at) (f label_at) (f second_at) (f close_at) label (moved_all f ls) (moved_all f us) (f n) (f m) (map (moved f) ts) (map (moved f) xs) (seq_moved f h) (seq_moved f g))
      (ap (λ (ys : List Lexeme). lexeme tokens.Scatter (f at) ∷ lexeme tokens.Open (f open_at) ∷ ys)
      (ap (λ (ys : List Lexeme). moved_all f ls ++ lexeme tokens.Comma (f comma_at) ∷ lexeme (tokens.Name label) (f label_at) ∷ lexeme tokens.Comma (f second_at) ∷ ys) (split f us close) ∙ split f ls lasts))
      (λ j. part (f at) (scatter_at (f at) (f label_at) label (terms_moved f n ts j) (terms_moved f m xs j)))
  prim_moved f (member s at open_at comma_at close_at ls us n m ts xs h g) =
      let close : List Lexeme = lexeme tokens.Close close_at ∷ [] in
      along (IsPrim s)
      (member s (f at) (f open_at) (f comma_at) (f close_at) (moved_all f ls) (moved_all f us) (f n) (f m) (map (moved f) ts) (map (moved f) xs) (seq_moved f h) (seq_moved f g))
      (ap (λ (ys : List Lexeme). lexeme tokens.Member (f at) ∷ lexeme tokens.Open (f open_at) ∷ ys)
      (ap (λ (ys : List Lexeme). moved_all f ls ++ lexeme tokens.Comma (f comma_at) ∷ ys) (split f us close) ∙ split f ls (lexeme tokens.Comma comma_at ∷ (us ++ close))))
      (λ j. part (f at) (member_at (f at) (terms_moved f n ts j) (terms_moved f m xs j)))

  post_moved : (f : ℕ → ℕ) {s : Bool} {ls : List Lexeme} {p : PartShape} → IsPost s ls p → IsPost s (moved_all f ls) (moved_part f p)
  post_moved f (prim s ls p h) = prim s (moved_all f ls) (moved_part f p) (prim_moved f h)
  post_moved f (get s ls p dot_at at label h) =
      along (IsPost s) (get s (moved_all f ls) (moved_part f p) (f dot_at) (f at) label (post_moved f h)) (split f ls (lexeme tokens.Dot dot_at ∷ lexeme (tokens.Name label) at ∷ [])) refl
  post_moved f (call_none s ls p dot_at at open_at close_at label h) =
      along (IsPost s) (call_none s (moved_all f ls) (moved_part f p) (f dot_at) (f at) (f open_at) (f close_at) label (post_moved f h))
      (split f ls (lexeme tokens.Dot dot_at ∷ lexeme (tokens.Name label) at ∷ lexeme tokens.Open open_at ∷ lexeme tokens.Close close_at ∷ [])) refl
  post_moved f (call s ls us p dot_at at open_at close_at label ts h g) =
      let close : List Lexeme = lexeme tokens.Close close_at ∷ [] in
      along (IsPost s) (call s (moved_all f ls) (moved_all f us) (moved_part f p) (f dot_at) (f at) (f open_at) (f close_at) label (map (moved f) ts) (post_moved f h) (args_moved f g))
      (ap (λ (ys : List Lexeme). moved_all f ls ++ lexeme tokens.Dot (f dot_at) ∷ lexeme (tokens.Name label) (f at) ∷ lexeme tokens.Open (f open_at) ∷ ys) (split f us close)
      ∙ split f ls (lexeme tokens.Dot dot_at ∷ lexeme (tokens.Name label) at ∷ lexeme tokens.Open open_at ∷ (us ++ close)))
      (called_moved f p at label ts)

  args_moved : (f : ℕ → ℕ) {s : Bool} {ls : List Lexeme} {ts : List Marked} → IsArgs s ls ts → IsArgs s (moved_all f ls) (map (moved f) ts)
  args_moved f (argument s ls n ts h) =
      along (IsArgs s) (argument s (moved_all f ls) (f n) (map (moved f) ts) (seq_moved f h)) refl (ap (λ (t : Marked). t ∷ []) (terms_moved f n ts))
  args_moved f (and_argument s ls us comma_at xs n ts h g) =
      along (IsArgs s) (and_argument s (moved_all f ls) (moved_all f us) (f comma_at) (map (moved f) xs) (f n) (map (moved f) ts) (args_moved f h) (seq_moved f g))
      (split f ls (lexeme tokens.Comma comma_at ∷ us))
      (ap (λ (t : Marked). map (moved f) xs ++ t ∷ []) (terms_moved f n ts) ∙ sym (map-append (moved f) xs (terms_at n ts ∷ [])))

  fields_moved : (f : ℕ → ℕ) {s : Bool} {ls : List Lexeme} {ns : List ℕ} {fs : List (Text × Marked)} → IsFields s ls ns fs → IsFields s (moved_all f ls) (map f ns) (map (moved_field f) fs)
  fields_moved f (field s ls at equals_at label p h) = field s (moved_all f ls) (f at) (f equals_at) label (moved_part f p) (expr_moved f h)
  fields_moved f (and_field s ls us ns fs comma_at at equals_at label p h g) =
      named (IsFields s) (and_field s (moved_all f ls) (moved_all f us) (map f ns) (map (moved_field f) fs) (f comma_at) (f at) (f equals_at) label (moved_part f p) (fields_moved f h) (expr_moved f g))
      (split f ls (lexeme tokens.Comma comma_at ∷ lexeme (tokens.Name label) at ∷ lexeme tokens.Equals equals_at ∷ us)) (sym (map-append f ns (at ∷ []))) (sym (map-append (moved_field f) fs ((label, p.term) ∷ [])))

  methods_moved : (f : ℕ → ℕ) {s : Bool} {ls : List Lexeme} {ns : List ℕ} {ms : List MarkedMethod} → IsMethods s ls ns ms → IsMethods s (moved_all f ls) (map f ns) (map (moved_method f) ms)
  methods_moved f (first_method s ls us ns x close_at equals_at n ts h g) =
      named (IsMethods s) (first_method s (moved_all f ls) (moved_all f us) (map f ns) x (f close_at) (f equals_at) (f n) (map (moved f) ts) (head_moved f h) (seq_moved f g))
      (split f ls (lexeme tokens.Close close_at ∷ lexeme tokens.Equals equals_at ∷ us)) refl (ap (λ (t : Marked). method x t ∷ []) (terms_moved f n ts))
  methods_moved f (and_method s ws ls us ms ns xs x comma_at close_at equals_at n ts h i g) =
      let lasts : List Lexeme = lexeme tokens.Close close_at ∷ lexeme tokens.Equals equals_at ∷ us in
      named (IsMethods s)
      (and_method s (moved_all f ws) (moved_all f ls) (moved_all f us) (map f ms) (map f ns) (map (moved_method f) xs) x (f comma_at) (f close_at) (f equals_at) (f n) (map (moved f) ts) (methods_moved f h) (head_moved f i) (seq_moved f g))
      (ap (λ (ys : List Lexeme). moved_all f ws ++ lexeme tokens.Comma (f comma_at) ∷ ys) (split f ls lasts) ∙ split f ws (lexeme tokens.Comma comma_at ∷ (ls ++ lasts)))
      (sym (map-append f ms ns))
      (ap (λ (t : Marked). map (moved_method f) xs ++ method x t ∷ []) (terms_moved f n ts) ∙ sym (map-append (moved_method f) xs (method x (terms_at n ts) ∷ [])))

  field_part_moved : (f : ℕ → ℕ) {s : Bool} {ls : List Lexeme} {ns : List ℕ} {fs : List (Text × Marked)} → IsFieldPart s ls ns fs → IsFieldPart s (moved_all f ls) (map f ns) (map (moved_field f) fs)
  field_part_moved f (no_fields s) = no_fields s
  field_part_moved f (fields s ls ns fs h) = fields s (moved_all f ls) (map f ns) (map (moved_field f) fs) (fields_moved f h)

  method_part_moved : (f : ℕ → ℕ) {s : Bool} {ls : List Lexeme} {ns : List ℕ} {ms : List MarkedMethod} → IsMethodPart s ls ns ms → IsMethodPart s (moved_all f ls) (map f ns) (map (moved_method f) ms)
  method_part_moved f (no_methods s) = no_methods s
  method_part_moved f (methods s ls ns ms at h) = methods s (moved_all f ls) (map f ns) (map (moved_method f) ms) (f at) (methods_moved f h)

  prod_moved : (f : ℕ → ℕ) {s : Bool} {ls : List Lexeme} {p : PartShape} → IsProd s ls p → IsProd s (moved_all f ls) (moved_part f p)
  prod_moved f (post s ls p h) = post s (moved_all f ls) (moved_part f p) (post_moved f h)
  prod_moved f (times s token sign at ls us p q i h g) =
      along (IsProd s) (times s token sign (f at) (moved_all f ls) (moved_all f us) (moved_part f p) (moved_part f q) i (prod_moved f h) (post_moved f g)) (split f ls (lexeme token at ∷ us)) refl

  sum_moved : (f : ℕ → ℕ) {s : Bool} {ls : List Lexeme} {p : PartShape} → IsSum s ls p → IsSum s (moved_all f ls) (moved_part f p)
  sum_moved f (prod s ls p h) = prod s (moved_all f ls) (moved_part f p) (prod_moved f h)
  sum_moved f (plus s token sign at ls us p q i h g) =
      along (IsSum s) (plus s token sign (f at) (moved_all f ls) (moved_all f us) (moved_part f p) (moved_part f q) i (sum_moved f h) (prod_moved f g)) (split f ls (lexeme token at ∷ us)) refl

  test_moved : (f : ℕ → ℕ) {s : Bool} {ls : List Lexeme} {p : PartShape} → IsTest s ls p → IsTest s (moved_all f ls) (moved_part f p)
  test_moved f (sum s ls p h) = sum s (moved_all f ls) (moved_part f p) (sum_moved f h)
  test_moved f (test s token sign at ls us p q i h g) =
      along (IsTest s) (test s token sign (f at) (moved_all f ls) (moved_all f us) (moved_part f p) (moved_part f q) i (sum_moved f h) (sum_moved f g)) (split f ls (lexeme token at ∷ us)) refl

  expr_moved : (f : ℕ → ℕ) {s : Bool} {ls : List Lexeme} {p : PartShape} → IsExpr s ls p → IsExpr s (moved_all f ls) (moved_part f p)
  expr_moved f (tested s ls p h) = tested s (moved_all f ls) (moved_part f p) (test_moved f h)
  expr_moved f (assign s at ls us p q h may g) =
      along (IsExpr s) (assign s (f at) (moved_all f ls) (moved_all f us) (moved_part f p) (moved_part f q) (test_moved f h) (may_put_moved f s p.term may) (expr_moved f g))
      (split f ls (lexeme tokens.Assign at ∷ us)) (ap (part (f p.start)) (put_moved f p.start p.term q.term))

  pub seq_moved : (f : ℕ → ℕ) {s : Bool} {ls : List Lexeme} {n : ℕ} {ts : List Marked} → IsSeq s ls n ts → IsSeq s (moved_all f ls) (f n) (map (moved f) ts)
  seq_moved f (last s ls p h) = last s (moved_all f ls) (moved_part f p) (expr_moved f h)
  seq_moved f (then s at ls us p n ts h g) =
      along (λ (ys : List Lexeme) (zs : List Marked). IsSeq s ys (f p.start) zs) (then s (f at) (moved_all f ls) (moved_all f us) (moved_part f p) (f n) (map (moved f) ts) (expr_moved f h) (seq_moved f g)) (split f ls (lexeme tokens.Semicolon at ∷ us)) refl
  seq_moved f (bind s at name_at equals_at in_at x ls us n m ts xs h g) =
      along (λ (ys : List Lexeme) (zs : List Marked). IsSeq s ys (f at) zs)
      (bind s (f at) (f name_at) (f equals_at) (f in_at) x (moved_all f ls) (moved_all f us) (f n) (f m) (map (moved f) ts) (map (moved f) xs) (seq_moved f h) (seq_moved f g))
      (ap (λ (ys : List Lexeme). lexeme tokens.Let (f at) ∷ lexeme (tokens.Name x) (f name_at) ∷ lexeme tokens.Equals (f equals_at) ∷ ys) (split f ls (lexeme tokens.In in_at ∷ us)))
      (λ i. let_at (f at) (f name_at) x (terms_moved f n ts i) (terms_moved f m xs i) ∷ [])
