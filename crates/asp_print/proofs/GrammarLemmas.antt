-- The tokens of a program of the grammar are the tokens of what it was read as.
use Rattle.std.proofs.Common.{◌≡◌, ℕ, Bool, true, List, [], ◌∷◌, ◌++◌, map, Option, refl, sym, ap, ◌∙◌, append_assoc}
use Rattle.std.proofs.lemmas.List.{append-nil}
use Rattle.asp_model.specs.Names.{Text}
use Rattle.asp_model.specs.Term.{SignShape, MethodHead}
use Rattle.asp_model.specs.Marked.{Marked, all_marked}
use Rattle.asp_model.specs.Shapes.{MarkedMethod}
use Rattle.syntax_tokens.specs.declared.token.Token.{Token}
use Rattle.syntax_tokens.specs.declared.token.Token.TheVariants as tokens
use Rattle.syntax_tokens.specs.Tokens.{Lexeme, lexeme, tokens_in}
use Rattle.syntax_grammar.specs.Nodes.{PartShape, terms_at, named_mark, method}
use Rattle.syntax_grammar.specs.Signs.{IsHead, head, parameter, IsService, no_service, service, IsLabels, first_label, and_label, IsLabelPart, no_labels, labels}
use Rattle.syntax_grammar.specs.Grammar.{IsPrim, number, variable, parentheses, object, word, active, serve, choice, echo, group_none, group, scatter, member, IsPost, prim, get, call_none, call, IsArgs, argument, and_argument, IsFields, field, and_field, IsMethods, first_method, and_method, IsFieldPart, no_fields, fields, IsMethodPart, no_methods, methods, IsProd, post, times, IsSum, prod, plus, IsTest, sum, test, IsExpr, tested, assign, IsSeq, last, then, bind}
use Rattle.asp_print.specs.Tokens.{behind_each, between, name_pieces, service_tokens, method_part, sign_of, tokens_of, pieces_of}
use Rattle.asp_print.specs.Parts.{field_tokens, method_tokens}
use Rattle.asp_print.proofs.PieceLemmas.{both, behind_more, grown, between_is, method_part_is, pieces_all, steps_are, parentheses_tokens, put_tokens, put_is_get, label_word_laid, word_laid, product_sign, sum_sign, test_sign, make_tokens}

abbrev one_name : Text → List Token
one_name x = tokens.Name x ∷ []

abbrev onto : Token → List Token → List Token
onto t ts = t ∷ ts

labels_behind : {ls : List Lexeme} {ns : List ℕ} {xs : List Text} → IsLabels ls ns xs → tokens.Comma ∷ tokens_in ls ≡ behind_each tokens.Comma (map one_name xs)
labels_behind (first_label at label) = refl
labels_behind (and_label ls ns xs comma_at at label h) = grown tokens.Comma one_name xs label ls (lexeme (tokens.Name label) at ∷ []) comma_at (labels_behind h) refl

labels_tokens : {ls : List Lexeme} {ns : List ℕ} {xs : List Text} → IsLabelPart ls ns xs → tokens_in ls ≡ between tokens.Comma (name_pieces xs)
labels_tokens no_labels = refl
labels_tokens (labels ls ns xs h) = between_is tokens.Comma (tokens_in ls) (map one_name xs) (labels_behind h)

service_is : {ls : List Lexeme} {ns : List ℕ} {label : Option Text} → IsService ls ns label → tokens_in ls ≡ service_tokens label
service_is no_service = refl
service_is (service comma_at at label) = refl

-- a head up to its parameters
abbrev begun : MethodHead → List Token
begun h = tokens.Name h.label ∷ tokens.Open ∷ tokens.Name h.slf ∷ behind_each tokens.Comma (name_pieces h.parameters)

head_is : {ls : List Lexeme} {ns : List ℕ} {h : MethodHead} → IsHead ls ns h → tokens_in ls ≡ begun h
head_is (head at open_at slf_at label slf) = refl
head_is (parameter ls ns h comma_at at x i) =
    both ls (lexeme tokens.Comma comma_at ∷ lexeme (tokens.Name x) at ∷ []) (head_is i) refl
    ∙ ap (λ (ts : List Token). tokens.Name h.label ∷ tokens.Open ∷ tokens.Name h.slf ∷ ts) (behind_more tokens.Comma one_name h.parameters x)

method_is : {ls : List Lexeme} {ns : List ℕ} {h : MethodHead} (us : List Lexeme) (close_at equals_at : ℕ) (t : Marked) → IsHead ls ns h → tokens_in us ≡ tokens_of t
    → tokens_in (ls ++ lexeme tokens.Close close_at ∷ lexeme tokens.Equals equals_at ∷ us) ≡ method_tokens (method h t)
method_is {ls = ls} {h = h} us close_at equals_at t i e =
    both ls (lexeme tokens.Close close_at ∷ lexeme tokens.Equals equals_at ∷ us) (head_is i) (ap (λ (ts : List Token). tokens.Close ∷ tokens.Equals ∷ ts) e)
    ∙ ap (λ (ts : List Token). tokens.Name h.label ∷ tokens.Open ∷ tokens.Name h.slf ∷ ts) (sym (append_assoc (behind_each tokens.Comma (name_pieces h.parameters)) (tokens.Close ∷ []) (tokens.Equals ∷ tokens_of t)))

args_are : (us : List Lexeme) (ts : List Marked) → tokens.Comma ∷ tokens_in us ≡ behind_each tokens.Comma (map tokens_of ts) → tokens_in us ≡ between tokens.Comma (pieces_of (all_marked ts))
args_are us ts e = between_is tokens.Comma (tokens_in us) (map tokens_of ts) e ∙ ap (between tokens.Comma) (sym (pieces_all ts))

signed : (token : Token) (sign : SignShape) (xs ys : List Token) → token ≡ sign_of sign → xs ≡ ys → token ∷ xs ≡ sign_of sign ∷ ys
signed token sign xs ys e d = λ i. e i ∷ d i

mutual
  prim_tokens : {s : Bool} {ls : List Lexeme} {p : PartShape} → IsPrim s ls p → s ≡ true → tokens_in ls ≡ tokens_of p.term
  prim_tokens (number s at n) e = refl
  prim_tokens (variable s at x) e = refl
  prim_tokens (parentheses s at close_at ls n ts h) e =
      ap (onto tokens.Open) (both ls (lexeme tokens.Close close_at ∷ []) (steps_are n (tokens_in ls) ts (seq_tokens h e)) refl) ∙ sym (parentheses_tokens (terms_at n ts))
  prim_tokens (object s at close_at ls us ns ms fs xs f g) e =
      ap (onto tokens.SquareOpen) (both ls (us ++ lexeme tokens.SquareClose close_at ∷ []) (field_part_tokens f e) (both us (lexeme tokens.SquareClose close_at ∷ []) (method_part_tokens g e) refl))
      ∙ sym (make_tokens (named_mark at (ns ++ ms)) fs xs)
  prim_tokens (word s token top at open_at close_at ls n ts w h) e =
      ap (λ (xs : List Token). token ∷ tokens.Open ∷ xs) (both ls (lexeme tokens.Close close_at ∷ []) (steps_are n (tokens_in ls) ts (seq_tokens h e)) refl)
      ∙ sym (word_laid w (tokens_of (terms_at n ts) ∷ []))
  prim_tokens (active s at open_at close_at ls us n ts ns label h i) e =
      ap (λ (xs : List Token). tokens.Active ∷ tokens.Open ∷ xs)
      (both ls (us ++ lexeme tokens.Close close_at ∷ []) (steps_are n (tokens_in ls) ts (seq_tokens h e)) (both us (lexeme tokens.Close close_at ∷ []) (service_is i) refl)
      ∙ sym (append_assoc (tokens_of (terms_at n ts)) (service_tokens label) (tokens.Close ∷ [])))
  prim_tokens (serve s token polls at open_at close_at ls ns xs w h) e =
      ap (λ (ts : List Token). token ∷ tokens.Open ∷ ts) (both ls (lexeme tokens.Close close_at ∷ []) (labels_tokens h) refl)
      ∙ sym (label_word_laid w xs)
  prim_tokens (choice s at open_at close_at then_open then_close else_at else_open else_close ls us vs n m k cs ts es f g h) e =
      let third : tokens_in (vs ++ lexeme tokens.BraceClose else_close ∷ []) ≡ tokens_of (terms_at k es) ++ tokens.BraceClose ∷ [] =
      both vs (lexeme tokens.BraceClose else_close ∷ []) (steps_are k (tokens_in vs) es (seq_tokens h e)) refl in
      let elses : List Lexeme = lexeme tokens.BraceClose then_close ∷ lexeme tokens.Else else_at ∷ lexeme tokens.BraceOpen else_open ∷ (vs ++ lexeme tokens.BraceClose else_close ∷ []) in
      let second : tokens_in (us ++ elses) ≡ tokens_of (terms_at m ts) ++ tokens.BraceClose ∷ tokens.Else ∷ tokens.BraceOpen ∷ (tokens_of (terms_at k es) ++ tokens.BraceClose ∷ []) =
      both us elses (steps_are m (tokens_in us) ts (seq_tokens g e)) (ap (λ (xs : List Token). tokens.BraceClose ∷ tokens.Else ∷ tokens.BraceOpen ∷ xs) third) in
      ap (λ (xs : List Token). tokens.If ∷ tokens.Open ∷ xs)
      (both ls (lexeme tokens.Close close_at ∷ lexeme tokens.BraceOpen then_open ∷ (us ++ elses)) (steps_are n (tokens_in ls) cs (seq_tokens f e)) (ap (λ (xs : List Token). tokens.Close ∷ tokens.BraceOpen ∷ xs) second))
  prim_tokens (echo s at open_at text_at close_at text) e = refl
  prim_tokens (group_none s at open_at close_at) e = refl
  prim_tokens (group s at open_at close_at ls ts h) e =
      ap (λ (xs : List Token). tokens.Group ∷ tokens.Open ∷ xs) (both ls (lexeme tokens.Close close_at ∷ []) (args_are ls ts (args_tokens h e)) refl)
  prim_tokens (scatter s at open_at comma_at label_at second_at close_at label ls us n m ts xs f g) e =
      let lasts : List Lexeme = lexeme tokens.Comma comma_at ∷ lexeme (tokens.Name label) label_at ∷ lexeme tokens.Comma second_at ∷ (us ++ lexeme tokens.Close close_at ∷ []) in
      let second : tokens_in (us ++ lexeme tokens.Close close_at ∷ []) ≡ tokens_of (terms_at m xs) ++ tokens.Close ∷ [] = both us (lexeme tokens.Close close_at ∷ []) (steps_are m (tokens_in us) xs (seq_tokens g e)) refl in
      ap (λ (ys : List Token). tokens.Scatter ∷ tokens.Open ∷ ys)
      (both ls lasts (steps_are n (tokens_in ls) ts (seq_tokens f e)) (ap (λ (ys : List Token). tokens.Comma ∷ tokens.Name label ∷ tokens.Comma ∷ ys) second)
      ∙ sym (append_assoc (tokens_of (terms_at n ts)) (tokens.Comma ∷ tokens.Name label ∷ tokens.Comma ∷ tokens_of (terms_at m xs)) (tokens.Close ∷ [])))
  prim_tokens (member s at open_at comma_at close_at ls us n m ts xs f g) e =
      let second : tokens_in (us ++ lexeme tokens.Close close_at ∷ []) ≡ tokens_of (terms_at m xs) ++ tokens.Close ∷ [] = both us (lexeme tokens.Close close_at ∷ []) (steps_are m (tokens_in us) xs (seq_tokens g e)) refl in
      ap (λ (ys : List Token). tokens.Member ∷ tokens.Open ∷ ys)
      (both ls (lexeme tokens.Comma comma_at ∷ (us ++ lexeme tokens.Close close_at ∷ [])) (steps_are n (tokens_in ls) ts (seq_tokens f e)) (ap (onto tokens.Comma) second)
      ∙ sym (append_assoc (tokens_of (terms_at n ts)) (tokens.Comma ∷ tokens_of (terms_at m xs)) (tokens.Close ∷ [])))

  post_tokens : {s : Bool} {ls : List Lexeme} {p : PartShape} → IsPost s ls p → s ≡ true → tokens_in ls ≡ tokens_of p.term
  post_tokens (prim s ls p h) e = prim_tokens h e
  post_tokens (get s ls p dot_at at label h) e = both ls (lexeme tokens.Dot dot_at ∷ lexeme (tokens.Name label) at ∷ []) (post_tokens h e) refl
  post_tokens (call_none s ls p dot_at at open_at close_at label h) e =
      both ls (lexeme tokens.Dot dot_at ∷ lexeme (tokens.Name label) at ∷ lexeme tokens.Open open_at ∷ lexeme tokens.Close close_at ∷ []) (post_tokens h e) refl
  post_tokens (call s ls us p dot_at at open_at close_at label ts h g) e =
      let arguments : tokens_in us ≡ between tokens.Comma (pieces_of (all_marked ts)) = args_are us ts (args_tokens g e) in
      both ls (lexeme tokens.Dot dot_at ∷ lexeme (tokens.Name label) at ∷ lexeme tokens.Open open_at ∷ (us ++ lexeme tokens.Close close_at ∷ [])) (post_tokens h e)
      (ap (λ (xs : List Token). tokens.Dot ∷ tokens.Name label ∷ tokens.Open ∷ xs) (both us (lexeme tokens.Close close_at ∷ []) arguments refl))

  args_tokens : {s : Bool} {ls : List Lexeme} {ts : List Marked} → IsArgs s ls ts → s ≡ true → tokens.Comma ∷ tokens_in ls ≡ behind_each tokens.Comma (map tokens_of ts)
  args_tokens (argument s ls n ts h) e = ap (onto tokens.Comma) (steps_are n (tokens_in ls) ts (seq_tokens h e) ∙ sym (append-nil (tokens_of (terms_at n ts))))
  args_tokens (and_argument s ls us comma_at xs n ts h g) e = grown tokens.Comma tokens_of xs (terms_at n ts) ls us comma_at (args_tokens h e) (steps_are n (tokens_in us) ts (seq_tokens g e))

  fields_tokens : {s : Bool} {ls : List Lexeme} {ns : List ℕ} {fs : List (Text × Marked)} → IsFields s ls ns fs → s ≡ true → tokens.Comma ∷ tokens_in ls ≡ behind_each tokens.Comma (map field_tokens fs)
  fields_tokens (field s ls at equals_at label p h) e = ap (λ (xs : List Token). tokens.Comma ∷ tokens.Name label ∷ tokens.Equals ∷ xs) (expr_tokens h e ∙ sym (append-nil (tokens_of p.term)))
  fields_tokens (and_field s ls us ns fs comma_at at equals_at label p h g) e =
      grown tokens.Comma field_tokens fs (label, p.term) ls (lexeme (tokens.Name label) at ∷ lexeme tokens.Equals equals_at ∷ us) comma_at (fields_tokens h e)
      (ap (λ (xs : List Token). tokens.Name label ∷ tokens.Equals ∷ xs) (expr_tokens g e))

  methods_tokens : {s : Bool} {ls : List Lexeme} {ns : List ℕ} {ms : List MarkedMethod} → IsMethods s ls ns ms → s ≡ true → tokens.Comma ∷ tokens_in ls ≡ behind_each tokens.Comma (map method_tokens ms)
  methods_tokens (first_method s ls us ns x close_at equals_at n ts h g) e =
      ap (onto tokens.Comma) (method_is us close_at equals_at (terms_at n ts) h (steps_are n (tokens_in us) ts (seq_tokens g e)) ∙ sym (append-nil (method_tokens (method x (terms_at n ts)))))
  methods_tokens (and_method s ws ls us ms ns xs x comma_at close_at equals_at n ts h i g) e =
      grown tokens.Comma method_tokens xs (method x (terms_at n ts)) ws (ls ++ lexeme tokens.Close close_at ∷ lexeme tokens.Equals equals_at ∷ us) comma_at (methods_tokens h e)
      (method_is us close_at equals_at (terms_at n ts) i (steps_are n (tokens_in us) ts (seq_tokens g e)))

  field_part_tokens : {s : Bool} {ls : List Lexeme} {ns : List ℕ} {fs : List (Text × Marked)} → IsFieldPart s ls ns fs → s ≡ true → tokens_in ls ≡ between tokens.Comma (map field_tokens fs)
  field_part_tokens (no_fields s) e = refl
  field_part_tokens (fields s ls ns fs h) e = between_is tokens.Comma (tokens_in ls) (map field_tokens fs) (fields_tokens h e)

  method_part_tokens : {s : Bool} {ls : List Lexeme} {ns : List ℕ} {ms : List MarkedMethod} → IsMethodPart s ls ns ms → s ≡ true → tokens_in ls ≡ method_part (map method_tokens ms)
  method_part_tokens (no_methods s) e = refl
  method_part_tokens (methods s ls ns ms at h) e = method_part_is (tokens_in ls) (map method_tokens ms) (methods_tokens h e)

  prod_tokens : {s : Bool} {ls : List Lexeme} {p : PartShape} → IsProd s ls p → s ≡ true → tokens_in ls ≡ tokens_of p.term
  prod_tokens (post s ls p h) e = post_tokens h e
  prod_tokens (times s token sign at ls us p q i h g) e = both ls (lexeme token at ∷ us) (prod_tokens h e) (signed token sign (tokens_in us) (tokens_of q.term) (product_sign i) (post_tokens g e))

  sum_tokens : {s : Bool} {ls : List Lexeme} {p : PartShape} → IsSum s ls p → s ≡ true → tokens_in ls ≡ tokens_of p.term
  sum_tokens (prod s ls p h) e = prod_tokens h e
  sum_tokens (plus s token sign at ls us p q i h g) e = both ls (lexeme token at ∷ us) (sum_tokens h e) (signed token sign (tokens_in us) (tokens_of q.term) (sum_sign i) (prod_tokens g e))

  test_tokens : {s : Bool} {ls : List Lexeme} {p : PartShape} → IsTest s ls p → s ≡ true → tokens_in ls ≡ tokens_of p.term
  test_tokens (sum s ls p h) e = sum_tokens h e
  test_tokens (test s token sign at ls us p q i h g) e = both ls (lexeme token at ∷ us) (sum_tokens h e) (signed token sign (tokens_in us) (tokens_of q.term) (test_sign i) (sum_tokens g e))

  expr_tokens : {s : Bool} {ls : List Lexeme} {p : PartShape} → IsExpr s ls p → s ≡ true → tokens_in ls ≡ tokens_of p.term
  expr_tokens (tested s ls p h) e = test_tokens h e
  expr_tokens (assign s at ls us p q h may g) e =
      both ls (lexeme tokens.Assign at ∷ us) (test_tokens h e) (ap (onto tokens.Assign) (expr_tokens g e)) ∙ sym (put_tokens p.start p.term q.term (put_is_get s p.term e may))

  -- the steps of a sequence, each behind a `;`
  pub seq_tokens : {s : Bool} {ls : List Lexeme} {n : ℕ} {ts : List Marked} → IsSeq s ls n ts → s ≡ true → tokens.Semicolon ∷ tokens_in ls ≡ behind_each tokens.Semicolon (map tokens_of ts)
  seq_tokens (last s ls p h) e = ap (onto tokens.Semicolon) (expr_tokens h e ∙ sym (append-nil (tokens_of p.term)))
  seq_tokens (then s at ls us p n ts h g) e = ap (onto tokens.Semicolon) (both ls (lexeme tokens.Semicolon at ∷ us) (expr_tokens h e) (seq_tokens g e))
  seq_tokens (bind s at name_at equals_at in_at x ls us n m ts xs h g) e =
      let whole : tokens_in (ls ++ lexeme tokens.In in_at ∷ us) ≡ tokens_of (terms_at n ts) ++ tokens.In ∷ tokens_of (terms_at m xs) =
      both ls (lexeme tokens.In in_at ∷ us) (steps_are n (tokens_in ls) ts (seq_tokens h e)) (ap (onto tokens.In) (steps_are m (tokens_in us) xs (seq_tokens g e))) in
      ap (λ (ys : List Token). tokens.Semicolon ∷ tokens.Let ∷ tokens.Name x ∷ tokens.Equals ∷ ys) (whole ∙ sym (append-nil (tokens_of (terms_at n ts) ++ tokens.In ∷ tokens_of (terms_at m xs))))
