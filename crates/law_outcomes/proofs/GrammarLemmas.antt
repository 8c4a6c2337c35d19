-- A program of the grammar, of sound tokens, is readable.
use Rattle.std.specs.Prelude.{◌≡◌, ℕ, suc, Bool, true, false, List, [], ◌∷◌, ◌++◌, Option, length, map}
use Rattle.std.specs.List.{list_all, flat_map}
use Rattle.std.proofs.Common.{refl, sym, ap, subst, ◌∙◌, arith, length-append}
use Rattle.std.proofs.lemmas.Bool.{and_from}
use Rattle.std.proofs.lemmas.List.Folds.{list_all-append}
use Rattle.asp_model.specs.Names.{Text}
use Rattle.asp_model.specs.Term.{MethodHead, Head, child_count}
use Rattle.asp_model.specs.Term as term
use Rattle.asp_model.specs.Marked.{Marked, marked, no_marked, and_marked, all_marked, plain, plain_below}
use Rattle.asp_model.specs.Readable.{is_identifier, names_of_method, is_written, HasArity, IsReadable, AreReadable}
use Rattle.asp_model.specs.Shapes.{MarkedMethod}
use Rattle.syntax_tokens.specs.declared.token.Token.{Token}
use Rattle.syntax_tokens.specs.Tokens.{Lexeme}
use Rattle.syntax_grammar.specs.Nodes.{PartShape, labelled, named_mark, put_to, is_get, terms_at, in_parentheses, made, ObjectShape}
use Rattle.syntax_grammar.specs.Signs.{IsWord, clones, repeats, prints, sizes, awaits, IsHead, head, parameter, IsService, no_service, service, IsLabels, first_label, and_label, IsLabelPart, no_labels, labels}
use Rattle.syntax_grammar.specs.Grammar.{may_put, IsPrim, number, variable, parentheses, object, word, active, serve, choice, echo, group_none, group, scatter, member, IsPost, prim, get, call_none, call, IsArgs, argument, and_argument, IsFields, field, and_field, IsMethods, first_method, and_method, IsFieldPart, no_fields, fields, IsMethodPart, no_methods, methods, IsProd, post, times, IsSum, prod, plus, IsTest, sum, test, IsExpr, tested, assign, IsSeq, last, then, bind, IsProgram}
use Rattle.law_steps.specs.Linked.{Each}
use Rattle.law_chases.proofs.FutureLemmas.{none_true}
use Rattle.law_steps.proofs.EachLemmas.{each_both, each_first, each_second}
use Rattle.law_outcomes.proofs.TokenLemmas.{IsSoundLexeme}

abbrev Reads : Marked → Type 0
Reads t = IsReadable (plain t)

abbrev Sound : List Lexeme → Type 0
Sound = Each IsSoundLexeme

-- Parts of lists of tokens

before : (ls us : List Lexeme) → Sound (ls ++ us) → Sound ls
before = each_first IsSoundLexeme

behind : (ls us : List Lexeme) → Sound (ls ++ us) → Sound us
behind = each_second IsSoundLexeme

-- Terms below a node

all_count : (ts : List Marked) → child_count (plain_below (all_marked ts)) ≡ length ts
all_count [] = refl
all_count (t ∷ ts) = ap suc (all_count ts)

all_read : (ts : List Marked) → Each Reads ts → AreReadable (plain_below (all_marked ts))
all_read [] h = tt
all_read (t ∷ ts) h = (h.0, all_read ts h.1)

-- one term at least
abbrev SomeRead : List Marked → Type 0
SomeRead [] = ⊥
SomeRead (t ∷ ts) = Reads t × Each Reads ts

each_read : (ts : List Marked) → SomeRead ts → Each Reads ts
each_read [] h = absurd h
each_read (t ∷ ts) h = h

terms_read : (at : ℕ) (ts : List Marked) → SomeRead ts → Reads (terms_at at ts)
terms_read at [] h = absurd h
terms_read at (t ∷ []) h = h.0
terms_read at (t ∷ u ∷ ts) h = (refl, omega arith, all_read (t ∷ u ∷ ts) h)

enclosed_read : (t : Marked) → Reads t → Reads (in_parentheses t)
enclosed_read (marked h m ts) r = r

put_read : (at : ℕ) (t u : Marked) → is_get t ≡ true → Reads t → Reads u → Reads (put_to at t u)
put_read at (marked (term.Get label) m (and_marked t no_marked)) u e h g = (h.0, refl, (h.2.0, (g, tt)))
put_read at t u e h g = none_true e

word_written : {token : Token} {h : Head} → IsWord token h → is_written h ≡ true
word_written clones = refl
word_written repeats = refl
word_written prints = refl
word_written sizes = refl
word_written awaits = refl

word_arity : {token : Token} {h : Head} → IsWord token h → HasArity h 1
word_arity clones = refl
word_arity repeats = refl
word_arity prints = refl
word_arity sizes = refl
word_arity awaits = refl

-- Names

one_name : (x : Text) → is_identifier x ≡ true → list_all is_identifier (x ∷ []) ≡ true
one_name x e = and_from _ _ e refl

more_names : (xs ys : List Text) → list_all is_identifier xs ≡ true → list_all is_identifier ys ≡ true → list_all is_identifier (xs ++ ys) ≡ true
more_names xs ys e f = list_all-append is_identifier xs ys ∙ and_from _ _ e f

abbrev Named : MethodHead → Type 0
Named h = list_all is_identifier (names_of_method h) ≡ true

head_named : {ls : List Lexeme} {ns : List ℕ} {h : MethodHead} → IsHead ls ns h → Sound ls → Named h
head_named (head at open_at slf_at label slf) w = and_from _ _ w.0 (and_from _ _ w.1.1.0 refl)
head_named (parameter ls ns h comma_at at x i) w = more_names (names_of_method h) (x ∷ []) (head_named i (before ls _ w)) (one_name x (behind ls _ w).1.0)

abbrev Serves : Option Text → Type 0
Serves label = is_written (term.Active label) ≡ true

service_named : {ls : List Lexeme} {ns : List ℕ} {label : Option Text} → IsService ls ns label → Sound ls → Serves label
service_named no_service w = refl
service_named (service comma_at at label) w = one_name label w.1.0

labels_named : {ls : List Lexeme} {ns : List ℕ} {xs : List Text} → IsLabels ls ns xs → Sound ls → list_all is_identifier xs ≡ true
labels_named (first_label at label) w = one_name label w.0
labels_named (and_label ls ns xs comma_at at label i) w = more_names xs (label ∷ []) (labels_named i (before ls _ w)) (one_name label (behind ls _ w).1.0)

label_part_named : {ls : List Lexeme} {ns : List ℕ} {xs : List Text} → IsLabelPart ls ns xs → Sound ls → list_all is_identifier xs ≡ true
label_part_named no_labels w = refl
label_part_named (labels ls ns xs i) w = labels_named i w

-- Objects

abbrev FieldReads : Text × Marked → Type 0
FieldReads f = (is_identifier f.0 ≡ true) × Reads f.1

abbrev MethodReads : MarkedMethod → Type 0
MethodReads m = Named m.head × Reads m.body

abbrev field_names : List (Text × Marked) → List Text
field_names = map (λ f. f.0)

abbrev field_terms : List (Text × Marked) → List Marked
field_terms = map (λ f. f.1)

abbrev method_heads : List MarkedMethod → List MethodHead
method_heads = map (λ m. m.head)

abbrev method_bodies : List MarkedMethod → List Marked
method_bodies = map (λ m. m.body)

fields_named : (fs : List (Text × Marked)) → Each FieldReads fs → list_all is_identifier (field_names fs) ≡ true
fields_named [] h = refl
fields_named (f ∷ fs) h = and_from _ _ h.0.0 (fields_named fs h.1)

methods_named : (ms : List MarkedMethod) → Each MethodReads ms → list_all is_identifier (flat_map names_of_method (method_heads ms)) ≡ true
methods_named [] h = refl
methods_named (m ∷ ms) h = more_names (names_of_method m.head) (flat_map names_of_method (method_heads ms)) h.0.0 (methods_named ms h.1)

field_terms_read : (fs : List (Text × Marked)) → Each FieldReads fs → Each Reads (field_terms fs)
field_terms_read [] h = tt
field_terms_read (f ∷ fs) h = (h.0.1, field_terms_read fs h.1)

bodies_read : (ms : List MarkedMethod) → Each MethodReads ms → Each Reads (method_bodies ms)
bodies_read [] h = tt
bodies_read (m ∷ ms) h = (h.0.1, bodies_read ms h.1)

fields_count : (fs : List (Text × Marked)) → length (field_terms fs) ≡ length (field_names fs)
fields_count [] = refl
fields_count (f ∷ fs) = ap suc (fields_count fs)

methods_count : (ms : List MarkedMethod) → length (method_bodies ms) ≡ length (method_heads ms)
methods_count [] = refl
methods_count (m ∷ ms) = ap suc (methods_count ms)

object_read : (x : ObjectShape) → Each FieldReads x.fields → Each MethodReads x.methods → Reads (made x).term
object_read x f m =
    let below = field_terms x.fields ++ method_bodies x.methods in (
      more_names (field_names x.fields) (flat_map names_of_method (method_heads x.methods)) (fields_named x.fields f) (methods_named x.methods m),
      omega (arith, all_count below, length-append (field_terms x.fields) (method_bodies x.methods), fields_count x.fields, methods_count x.methods),
      all_read below (each_both Reads (field_terms x.fields) (method_bodies x.methods) (field_terms_read x.fields f) (bodies_read x.methods m)),
    )

-- A `serve` or a `pending`

labelled_read : (polls : Bool) (xs : List Text) (at : ℕ) (ns : List ℕ) → list_all is_identifier xs ≡ true → Reads (marked (labelled polls xs) (named_mark at ns) no_marked)
labelled_read false xs at ns h = (h, refl, tt)
labelled_read true xs at ns h = (h, refl, tt)

-- The grammar, with its rule on `:=`

mutual
  prim_read : {s : Bool} {ls : List Lexeme} {p : PartShape} → s ≡ true → IsPrim s ls p → Sound ls → Reads p.term
  prim_read e (number s at n) w = (w.0, refl, tt)
  prim_read e (variable s at x) w = (one_name x w.0, refl, tt)
  prim_read e (parentheses s at close_at ls n ts h) w = enclosed_read (terms_at n ts) (terms_read n ts (seq_read e h (before ls _ w.1)))
  prim_read e (object s at close_at ls us ns ms fs xs f g) w = object_read (record { at = at; names = ns ++ ms; fields = fs; methods = xs }) (field_part_read e f (before ls _ w.1)) (method_part_read e g (before us _ (behind ls _ w.1)))
  prim_read e (word s token h at open_at close_at ls n ts i g) w = (word_written i, word_arity i, (terms_read n ts (seq_read e g (before ls _ w.1.1)), tt))
  prim_read e (active s at open_at close_at ls us n ts ns label h i) w = (service_named i (before us _ (behind ls _ w.1.1)), refl, (terms_read n ts (seq_read e h (before ls _ w.1.1)), tt))
  prim_read e (serve s token polls at open_at close_at ls ns xs k h) w = labelled_read polls xs at ns (label_part_named h (before ls _ w.1.1))
  prim_read e (choice s at open_at close_at then_open then_close else_at else_open else_close ls us vs n m k cs ts es f g h) w =
      let thens = behind ls _ w.1.1 in
      let elses = behind us _ thens.1.1 in
      (refl, refl, (terms_read n cs (seq_read e f (before ls _ w.1.1)), (terms_read m ts (seq_read e g (before us _ thens.1.1)), (terms_read k es (seq_read e h (before vs _ elses.1.1.1)), tt))))
  prim_read e (echo s at open_at text_at close_at text) w = (w.1.1.0, refl, tt)
  prim_read e (group_none s at open_at close_at) w = (refl, tt, tt)
  prim_read e (group s at open_at close_at ls ts h) w = (refl, tt, all_read ts (args_read e h (before ls _ w.1.1)))
  prim_read e (scatter s at open_at comma_at label_at second_at close_at label ls us n m ts xs f g) w =
      let lasts = (behind ls _ w.1.1).1 in
      (one_name label lasts.0, refl, (terms_read n ts (seq_read e f (before ls _ w.1.1)), (terms_read m xs (seq_read e g (before us _ lasts.1.1)), tt)))
  prim_read e (member s at open_at comma_at close_at ls us n m ts xs f g) w =
      (refl, refl, (terms_read n ts (seq_read e f (before ls _ w.1.1)), (terms_read m xs (seq_read e g (before us _ (behind ls _ w.1.1).1)), tt)))

  post_read : {s : Bool} {ls : List Lexeme} {p : PartShape} → s ≡ true → IsPost s ls p → Sound ls → Reads p.term
  post_read e (prim s ls p h) w = prim_read e h w
  post_read e (get s ls p dot_at at label h) w = (one_name label (behind ls _ w).1.0, refl, (post_read e h (before ls _ w), tt))
  post_read e (call_none s ls p dot_at at open_at close_at label h) w = (one_name label (behind ls _ w).1.0, omega arith, (post_read e h (before ls _ w), tt))
  post_read e (call s ls us p dot_at at open_at close_at label ts h g) w =
      let rest = behind ls _ w in
      (one_name label rest.1.0, omega arith, (post_read e h (before ls _ w), all_read ts (args_read e g (before us _ rest.1.1.1))))

  args_read : {s : Bool} {ls : List Lexeme} {ts : List Marked} → s ≡ true → IsArgs s ls ts → Sound ls → Each Reads ts
  args_read e (argument s ls n ts h) w = (terms_read n ts (seq_read e h w), tt)
  args_read e (and_argument s ls us comma_at xs n ts h g) w = each_both Reads xs (terms_at n ts ∷ []) (args_read e h (before ls _ w)) (terms_read n ts (seq_read e g (behind ls _ w).1), tt)

  fields_read : {s : Bool} {ls : List Lexeme} {ns : List ℕ} {fs : List (Text × Marked)} → s ≡ true → IsFields s ls ns fs → Sound ls → Each FieldReads fs
  fields_read e (field s ls at equals_at label p h) w = ((w.0, expr_read e h w.1.1), tt)
  fields_read e (and_field s ls us ns fs comma_at at equals_at label p h g) w =
      let rest = behind ls _ w in
      each_both FieldReads fs ((label, p.term) ∷ []) (fields_read e h (before ls _ w)) ((rest.1.0, expr_read e g rest.1.1.1), tt)

  methods_read : {s : Bool} {ls : List Lexeme} {ns : List ℕ} {ms : List MarkedMethod} → s ≡ true → IsMethods s ls ns ms → Sound ls → Each MethodReads ms
  methods_read e (first_method s ls us ns x close_at equals_at n ts h g) w = ((head_named h (before ls _ w), terms_read n ts (seq_read e g (behind ls _ w).1.1)), tt)
  methods_read e (and_method s ws ls us ms ns xs x comma_at close_at equals_at n ts h i g) w =
      let rest = (behind ws _ w).1 in
      each_both MethodReads xs _ (methods_read e h (before ws _ w)) ((head_named i (before ls _ rest), terms_read n ts (seq_read e g (behind ls _ rest).1.1)), tt)

  field_part_read : {s : Bool} {ls : List Lexeme} {ns : List ℕ} {fs : List (Text × Marked)} → s ≡ true → IsFieldPart s ls ns fs → Sound ls → Each FieldReads fs
  field_part_read e (no_fields s) w = tt
  field_part_read e (fields s ls ns fs h) w = fields_read e h w

  method_part_read : {s : Bool} {ls : List Lexeme} {ns : List ℕ} {ms : List MarkedMethod} → s ≡ true → IsMethodPart s ls ns ms → Sound ls → Each MethodReads ms
  method_part_read e (no_methods s) w = tt
  method_part_read e (methods s ls ns ms at h) w = methods_read e h w.1

  prod_read : {s : Bool} {ls : List Lexeme} {p : PartShape} → s ≡ true → IsProd s ls p → Sound ls → Reads p.term
  prod_read e (post s ls p h) w = post_read e h w
  prod_read e (times s token sign at ls us p q i h g) w = (refl, refl, (prod_read e h (before ls _ w), (post_read e g (behind ls _ w).1, tt)))

  sum_read : {s : Bool} {ls : List Lexeme} {p : PartShape} → s ≡ true → IsSum s ls p → Sound ls → Reads p.term
  sum_read e (prod s ls p h) w = prod_read e h w
  sum_read e (plus s token sign at ls us p q i h g) w = (refl, refl, (sum_read e h (before ls _ w), (prod_read e g (behind ls _ w).1, tt)))

  test_read : {s : Bool} {ls : List Lexeme} {p : PartShape} → s ≡ true → IsTest s ls p → Sound ls → Reads p.term
  test_read e (sum s ls p h) w = sum_read e h w
  test_read e (test s token sign at ls us p q i h g) w = (refl, refl, (sum_read e h (before ls _ w), (sum_read e g (behind ls _ w).1, tt)))

  expr_read : {s : Bool} {ls : List Lexeme} {p : PartShape} → s ≡ true → IsExpr s ls p → Sound ls → Reads p.term
  expr_read e (tested s ls p h) w = test_read e h w
  expr_read e (assign s at ls us p q h i g) w = put_read p.start p.term q.term (subst (λ b. may_put b p.term ≡ true) e i) (test_read e h (before ls _ w)) (expr_read e g (behind ls _ w).1)

  seq_read : {s : Bool} {ls : List Lexeme} {n : ℕ} {ts : List Marked} → s ≡ true → IsSeq s ls n ts → Sound ls → SomeRead ts
  seq_read e (last s ls p h) w = (expr_read e h w, tt)
  seq_read e (then s at ls us p n ts h g) w = (expr_read e h (before ls _ w), each_read ts (seq_read e g (behind ls _ w).1))
  seq_read e (bind s at name_at equals_at in_at x ls us n m ts xs h g) w =
      let rest = w.1.1.1 in
      ((one_name x w.1.0, refl, (terms_read n ts (seq_read e h (before ls _ rest)), (terms_read m xs (seq_read e g (behind ls _ rest).1), tt))), tt)

-- a program that stands in sound tokens
pub program_read : (ls : List Lexeme) (t : Marked) → IsProgram true ls t → Sound ls → IsReadable (plain t)
program_read ls t p w = subst Reads (sym p.term) (terms_read p.start p.terms (seq_read refl p.is (before p.sequence _ (subst Sound p.whole w))))
