-- Runs of the machine, part by part of a program.
use Rattle.std.proofs.Common.{◌≡◌, ℕ, Bool, true, false, List, [], ◌∷◌, ◌++◌, Option, Some, None, refl, sym, ap, ◌∙◌, append_assoc}
use Rattle.std.proofs.lemmas.List.{append-nil}
use Rattle.asp_model.specs.Names.{Text}
use Rattle.asp_model.specs.Term.{Head, SignShape, MethodHead}
use Rattle.asp_model.specs.Marked.{Marked}
use Rattle.asp_model.specs.Shapes.{MarkedMethod}
use Rattle.syntax_tokens.specs.declared.token.Token.{Token}
use Rattle.syntax_tokens.specs.declared.token.Token.TheVariants as tokens
use Rattle.syntax_tokens.specs.Tokens.{Lexeme, lexeme}
use Rattle.syntax_grammar.specs.Nodes.{PartShape, terms_at, ObjectShape, made, with_parameter, served}
use Rattle.syntax_grammar.specs.Signs.{IsProductSign, multiplies, divides, leaves, IsSumSign, adds, subtracts, IsTestSign, is_less, is_same, IsWord, clones, repeats, prints, sizes, awaits, IsLabelWord, is_serve, is_pending, IsHead, head, parameter, IsLabels, first_label, and_label, IsLabelPart, no_labels, labels}
use Rattle.syntax_grammar.specs.Grammar.{IsPrim, number, variable, parentheses, object, word, choice, echo, active, serve, group_none, group, scatter, member}
use Rattle.syntax_grammar.specs.States.{OperatorShape, TargetShape, KindShape, InWord, InList, InField, InMethod, OpenShape, OperandShape, Plain, ByRound, Begin, Want, Have, ListBegun, Opening, ObjectBegun, MethodNaming, HeadNamed, StateShape, At, has_terms, opened_with, fresh, new_object, with_field, with_method, operand_part, listed, joined, put_all, first_start, sequence_part, ServeOpening, ServeBegun, LabelNamed, new_labels}
use Rattle.syntax_grammar.specs.Machine as machine
use Rattle.syntax_grammar.specs.Closings.{◌>>=◌, FinishedShape, finished, over, finish, concluded, first_mode, close, close_square}
use Rattle.syntax_grammar.specs.Changes.{ChangeShape, Goes, changed, operand, begin}
use Rattle.syntax_grammar.specs.Machine.{next_term, have, step, run}

-- reading in two parts
pub after : (s : Bool) (x : Option StateShape) (ls ms : List Lexeme) → ((y : StateShape) → run s y (ls ++ ms) ≡ (run s y ls >>= λ z. run s z ms))
    → (x >>= λ y. run s y (ls ++ ms)) ≡ ((x >>= λ y. run s y ls) >>= λ y. run s y ms)
after s None ls ms h = refl
after s (Some y) ls ms h = h y

pub run_append : (s : Bool) (x : StateShape) (ls ms : List Lexeme) → run s x (ls ++ ms) ≡ (run s x ls >>= λ y. run s y ms)
run_append s x [] ms = refl
run_append s x (l ∷ ls) ms = after s (step s x l) ls ms (λ y. run_append s y ls ms)

pub goes_on : (s : Bool) (x y : StateShape) (ls ms : List Lexeme) (z : Option StateShape) → run s x ls ≡ Some y → run s y ms ≡ z → run s x (ls ++ ms) ≡ z
goes_on s x y ls ms z h g = run_append s x ls ms ∙ ap (λ (w : Option StateShape). w >>= λ v. run s v ms) h ∙ g

-- one lexeme, whose step is known, and then the others
pub steps : (s : Bool) (x : Option StateShape) (y : Option StateShape) (ls : List Lexeme) (z : Option StateShape) → x ≡ y → (y >>= λ v. run s v ls) ≡ z → (x >>= λ v. run s v ls) ≡ z
steps s x y ls z e g = ap (λ (w : Option StateShape). w >>= λ v. run s v ls) e ∙ g

pub word_goes : {token : Token} {head : Head} → IsWord token head → (at : ℕ) → operand token at ≡ Some (Goes (Opening ByRound (InWord head at)))
word_goes clones at = refl
word_goes repeats at = refl
word_goes prints at = refl
word_goes sizes at = refl
word_goes awaits at = refl

pub word_begins : {token : Token} {head : Head} → IsWord token head → (at : ℕ) → begin token at ≡ operand token at
word_begins clones at = refl
word_begins repeats at = refl
word_begins prints at = refl
word_begins sizes at = refl
word_begins awaits at = refl

pub times_goes : {token : Token} {sign : SignShape} → IsProductSign token sign → (s : Bool) (x : OperandShape) (r : OpenShape) (o : List OpenShape)
    → have s x r o token ≡ machine.times sign (operand_part x) r o
times_goes multiplies s x r o = refl
times_goes divides s x r o = refl
times_goes leaves s x r o = refl

pub plus_goes : {token : Token} {sign : SignShape} → IsSumSign token sign → (s : Bool) (x : OperandShape) (r : OpenShape) (o : List OpenShape)
    → have s x r o token ≡ machine.plus sign (operand_part x) r o
plus_goes adds s x r o = refl
plus_goes subtracts s x r o = refl

pub test_goes : {token : Token} {sign : SignShape} → IsTestSign token sign → (s : Bool) (x : OperandShape) (r : OpenShape) (o : List OpenShape)
    → have s x r o token ≡ machine.test_behind r.test sign (operand_part x) r o
test_goes is_less s x r o = refl
test_goes is_same s x r o = refl

pub label_word_goes : {token : Token} {polls : Bool} → IsLabelWord token polls → (at : ℕ) → operand token at ≡ Some (Goes (ServeOpening polls at))
label_word_goes is_serve at = refl
label_word_goes is_pending at = refl

label_word_begins : {token : Token} {polls : Bool} → IsLabelWord token polls → (at : ℕ) → begin token at ≡ operand token at
label_word_begins is_serve at = refl
label_word_begins is_pending at = refl

-- an operand is read where a term begins as where one is wanted
pub begun_prim : {s : Bool} {ls : List Lexeme} {p : PartShape} → IsPrim s ls p → (b : Bool) (r : OpenShape) (o : List OpenShape) → run s (At (first_mode b) r o) ls ≡ run s (At Want r o) ls
begun_prim h false r o = refl
begun_prim (number s at n) true r o = refl
begun_prim (variable s at x) true r o = refl
begun_prim (parentheses s at c ls n ts h) true r o = refl
begun_prim (object s at c ls us ns ms fs xs f g) true r o = refl
begun_prim (word s token h at o c ls n ts w g) true r q =
    ap (λ (w : Option ChangeShape). changed w r q >>= λ v. run s v (lexeme tokens.Open o ∷ (ls ++ lexeme tokens.Close c ∷ []))) (word_begins w at)
begun_prim (active s at a c ls us n ts ns label h i) true r o = refl
begun_prim (serve s token polls at o c ls ns xs w h) true r q =
    ap (λ (w : Option ChangeShape). changed w r q >>= λ v. run s v (lexeme tokens.Open o ∷ (ls ++ lexeme tokens.Close c ∷ []))) (label_word_begins w at)
begun_prim (choice s at a b c d e f g ls us vs n m k cs ts es x y z) true r o = refl
begun_prim (echo s at a b c text) true r o = refl
begun_prim (group_none s at a c) true r o = refl
begun_prim (group s at a c ls ts h) true r o = refl
begun_prim (scatter s at a b d e c label ls us n m ts xs h g) true r o = refl
begun_prim (member s at a b c ls us n m ts xs h g) true r o = refl

-- a list of terms is read as a sequence
pub list_first : (target : TargetShape) (r : OpenShape) (o : List OpenShape) (token : Token) (at : ℕ) (y : StateShape)
    → changed (begin token at) (fresh (InList target [])) (r ∷ o) ≡ Some y → machine.listing target r o token at ≡ Some y
list_first target r o tokens.Close at y e = absurd cc
list_first target r o _ at y e = e

pub list_on : (s : Bool) (target : TargetShape) (r : OpenShape) (o : List OpenShape) (l : Lexeme) (ls : List Lexeme) (x : StateShape) (z : Option StateShape)
    → changed (begin l.token l.at) (fresh (InList target [])) (r ∷ o) ≡ z → (z >>= λ y. run s y ls) ≡ Some x → run s (At (ListBegun target) r o) (l ∷ ls) ≡ Some x
list_on s target r o l ls x None e h = absurd cc
list_on s target r o l ls x (Some y) e h = steps s (machine.listing target r o l.token l.at) (Some y) ls (Some x) (list_first target r o l.token l.at y e) h

pub list_is : (s : Bool) (target : TargetShape) (r : OpenShape) (o : List OpenShape) (ls : List Lexeme) (x : OperandShape) (m : OpenShape) (q : List OpenShape)
    → run s (At Begin (fresh (InList target [])) (r ∷ o)) ls ≡ Some (At (Have x) m q) → run s (At (ListBegun target) r o) ls ≡ Some (At (Have x) m q)
list_is s target r o [] x m q h = absurd cc
list_is s target r o (l ∷ ls) x m q h = list_on s target r o l ls (At (Have x) m q) (changed (begin l.token l.at) (fresh (InList target [])) (r ∷ o)) refl h

abbrev pub PostRuns : Bool → List Lexeme → PartShape → Type 0
PostRuns s ls p = (b : Bool) (r : OpenShape) (o : List OpenShape) → (x : OperandShape) × (run s (At (first_mode b) r o) ls ≡ Some (At (Have x) r o)) × (operand_part x ≡ p)

abbrev pub ProdRuns : Bool → List Lexeme → PartShape → Type 0
ProdRuns s ls e = (b : Bool) (k : KindShape) (n : ℕ) (before : List Marked) (puts : List PartShape) (t m : Option OperatorShape) (o : List OpenShape)
    → (p : Option OperatorShape) × (x : OperandShape)
    × (run s (At (first_mode b) (opened_with k n before puts t m None) o) ls ≡ Some (At (Have x) (opened_with k n before puts t m p) o)) × (joined p (operand_part x) ≡ e)

abbrev pub SumRuns : Bool → List Lexeme → PartShape → Type 0
SumRuns s ls e = (b : Bool) (k : KindShape) (n : ℕ) (before : List Marked) (puts : List PartShape) (t : Option OperatorShape) (o : List OpenShape)
    → (m p : Option OperatorShape) × (x : OperandShape)
    × (run s (At (first_mode b) (opened_with k n before puts t None None) o) ls ≡ Some (At (Have x) (opened_with k n before puts t m p) o)) × (joined m (joined p (operand_part x)) ≡ e)

abbrev pub TestRuns : Bool → List Lexeme → PartShape → Type 0
TestRuns s ls e = (b : Bool) (k : KindShape) (n : ℕ) (before : List Marked) (puts : List PartShape) (o : List OpenShape)
    → (t m p : Option OperatorShape) × (x : OperandShape)
    × (run s (At (first_mode b) (opened_with k n before puts None None None) o) ls ≡ Some (At (Have x) (opened_with k n before puts t m p) o))
    × (joined t (joined m (joined p (operand_part x))) ≡ e)

abbrev pub ExprRuns : Bool → List Lexeme → PartShape → Type 0
ExprRuns s ls e = (b : Bool) (k : KindShape) (n : ℕ) (before : List Marked) (puts : List PartShape) (o : List OpenShape)
    → (qs : List PartShape) × (t m p : Option OperatorShape) × (x : OperandShape)
    × (run s (At (first_mode b) (opened_with k n before puts None None None) o) ls ≡ Some (At (Have x) (opened_with k n before qs t m p) o))
    × (put_all qs (joined t (joined m (joined p (operand_part x)))) ≡ put_all puts e)

abbrev pub SeqRuns : Bool → List Lexeme → ℕ → List Marked → Type 0
SeqRuns s ls n ts = (k : KindShape) (i : ℕ) (before : List Marked) (o : List OpenShape) → has_terms k ≡ true
    → (x : OperandShape) × (m : OpenShape) × (q : List OpenShape) × (run s (At Begin (opened_with k i before [] None None None) o) ls ≡ Some (At (Have x) m q))
    × (finish (operand_part x) m q ≡ over k (sequence_part (first_start before i n) (before ++ ts)) o)

abbrev pub ArgsRuns : Bool → List Lexeme → List Marked → Type 0
ArgsRuns s ls ts = (target : TargetShape) (o : List OpenShape)
    → (x : OperandShape) × (m : OpenShape) × (q : List OpenShape) × (before : List Marked) × (v : PartShape) × (run s (At Begin (fresh (InList target [])) o) ls ≡ Some (At (Have x) m q))
    × (finish (operand_part x) m q ≡ finished (InList target before) v o) × (before ++ v.term ∷ [] ≡ ts)

-- a list of terms up to its end
pub listed_runs : (s : Bool) (us : List Lexeme) (ts : List Marked) → ArgsRuns s us ts → (target : TargetShape) (close_at : ℕ) (r : OpenShape) (o : List OpenShape)
    → run s (At (ListBegun target) r o) (us ++ lexeme tokens.Close close_at ∷ []) ≡ Some (At (Have (Plain (listed target ts))) r o)
listed_runs s us ts f target close_at r o =
    let w = f target (r ∷ o) in
    let z : Option StateShape = Some (At (Have (Plain (listed target ts))) r o) in
    goes_on s (At (ListBegun target) r o) (At (Have w.0) w.1 w.2) us (lexeme tokens.Close close_at ∷ []) z (list_is s target r o us w.0 w.1 w.2 w.5)
    (ap (λ (f : FinishedShape). concluded close f >>= λ v. run s v []) w.6 ∙ ap (λ (xs : List Marked). Some (At (Have (Plain (listed target xs))) r o)) w.7)

-- the last field of an object, up to what follows it
pub record FieldRun (s : Bool) (from : StateShape) (ls : List Lexeme) (r : OpenShape) (o : List OpenShape) (to : ObjectShape) : Type 0 where
  pub x : OperandShape
  pub puts : List PartShape
  pub t : Option OperatorShape
  pub m : Option OperatorShape
  pub p : Option OperatorShape
  pub object : ObjectShape
  pub label : Text
  pub ran : run s from ls ≡ Some (At (Have x) (opened_with (InField object label) 0 [] puts t m p) (r ∷ o))
  pub is : with_field object label (put_all puts (joined t (joined m (joined p (operand_part x))))).term ≡ to

-- the same of a method
pub record MethodRun (s : Bool) (from : StateShape) (ls : List Lexeme) (r : OpenShape) (o : List OpenShape) (to : ObjectShape) : Type 0 where
  pub x : OperandShape
  pub m : OpenShape
  pub q : List OpenShape
  pub object : ObjectShape
  pub head : MethodHead
  pub v : PartShape
  pub ran : run s from ls ≡ Some (At (Have x) m q)
  pub is : finish (operand_part x) m q ≡ finished (InMethod object head) v (r ∷ o)
  pub to_is : with_method object head v.term ≡ to

abbrev pub names_more : ObjectShape → List ℕ → ObjectShape
names_more x ns = record x { names = x.names ++ ns }

abbrev pub object_of : ℕ → List ℕ → List (Text × Marked) → List MarkedMethod → ObjectShape
object_of at ns fs ms = record { at = at; names = ns; fields = fs; methods = ms }

abbrev pub FieldsRun : Bool → List Lexeme → List ℕ → List (Text × Marked) → Type 0
FieldsRun s ls ns fs = (at : ℕ) (r : OpenShape) (o : List OpenShape) → FieldRun s (At (ObjectBegun (new_object at)) r o) ls r o (object_of at ns fs [])

abbrev pub MethodsRun : Bool → List Lexeme → List ℕ → List MarkedMethod → Type 0
MethodsRun s ls ns xs = (at : ℕ) (ms : List ℕ) (fs : List (Text × Marked)) (r : OpenShape) (o : List OpenShape)
    → MethodRun s (At (MethodNaming (object_of at ms fs [])) r o) ls r o (object_of at (ms ++ ns) fs xs)

pub head_complete : {ls : List Lexeme} {ns : List ℕ} {h : MethodHead} → IsHead ls ns h → (s : Bool) (x : ObjectShape) (r : OpenShape) (o : List OpenShape)
    → run s (At (MethodNaming x) r o) ls ≡ Some (At (HeadNamed (names_more x ns) h) r o)
head_complete (head at open_at slf_at label slf) s x r o =
    ap (λ (ms : List ℕ). Some (At (HeadNamed (record x { names = ms }) (record { label = label; slf = slf; parameters = [] })) r o)) (append_assoc x.names (at ∷ []) (slf_at ∷ []))
head_complete (parameter ls ns h comma_at at name g) s x r o =
    goes_on s (At (MethodNaming x) r o) (At (HeadNamed (names_more x ns) h) r o) ls (lexeme tokens.Comma comma_at ∷ lexeme (tokens.Name name) at ∷ [])
    (Some (At (HeadNamed (names_more x (ns ++ at ∷ [])) (with_parameter h name)) r o)) (head_complete g s x r o)
    (ap (λ (ms : List ℕ). Some (At (HeadNamed (record x { names = ms }) (with_parameter h name)) r o)) (append_assoc x.names ns (at ∷ [])))

pub labels_complete : {ls : List Lexeme} {ns : List ℕ} {xs : List Text} → IsLabels ls ns xs → (s polls : Bool) (at : ℕ) (r : OpenShape) (o : List OpenShape)
    → run s (At (ServeBegun (new_labels polls at)) r o) ls ≡ Some (At (LabelNamed (record { at = at; polls = polls; names = ns; labels = xs })) r o)
labels_complete (first_label label_at label) s polls at r o = refl
labels_complete (and_label ls ns xs comma_at label_at label h) s polls at r o =
    goes_on s (At (ServeBegun (new_labels polls at)) r o) (At (LabelNamed (record { at = at; polls = polls; names = ns; labels = xs })) r o) ls (lexeme tokens.Comma comma_at ∷ lexeme (tokens.Name label) label_at ∷ [])
    (Some (At (LabelNamed (record { at = at; polls = polls; names = ns ++ label_at ∷ []; labels = xs ++ label ∷ [] })) r o)) (labels_complete h s polls at r o) refl

-- the labels of a `serve` or a `pending`, up to its end
pub labels_run : {ls : List Lexeme} {ns : List ℕ} {xs : List Text} → IsLabelPart ls ns xs → (s polls : Bool) (at close_at : ℕ) (r : OpenShape) (o : List OpenShape)
    → run s (At (ServeBegun (new_labels polls at)) r o) (ls ++ lexeme tokens.Close close_at ∷ []) ≡ Some (At (Have (Plain (served (record { at = at; polls = polls; names = ns; labels = xs })))) r o)
labels_run no_labels s polls at close_at r o = refl
labels_run (labels ls ns xs h) s polls at close_at r o =
    goes_on s (At (ServeBegun (new_labels polls at)) r o) (At (LabelNamed (record { at = at; polls = polls; names = ns; labels = xs })) r o) ls (lexeme tokens.Close close_at ∷ [])
    (Some (At (Have (Plain (served (record { at = at; polls = polls; names = ns; labels = xs })))) r o)) (labels_complete h s polls at r o) refl

-- a method's body behind its head
pub method_runs : (s : Bool) (us : List Lexeme) (n : ℕ) (ts : List Marked) {ls : List Lexeme} {ns : List ℕ} {h : MethodHead} → IsHead ls ns h → SeqRuns s us n ts → (close_at equals_at : ℕ) (x to : ObjectShape) (r : OpenShape) (o : List OpenShape)
    → with_method (names_more x ns) h (terms_at n ts) ≡ to
    → MethodRun s (At (MethodNaming x) r o) (ls ++ lexeme tokens.Close close_at ∷ lexeme tokens.Equals equals_at ∷ us) r o to
method_runs s us n ts {ls = ls} {ns = ns} {h = h} f g close_at equals_at x to r o e =
    let y = g (InMethod (names_more x ns) h) 0 [] (r ∷ o) refl in
    record {
      x = y.0;
      m = y.1;
      q = y.2;
      object = names_more x ns;
      head = h;
      v = sequence_part n ts;
      ran = goes_on s (At (MethodNaming x) r o) (At (HeadNamed (names_more x ns) h) r o) ls (lexeme tokens.Close close_at ∷ lexeme tokens.Equals equals_at ∷ us) (Some (At (Have y.0) y.1 y.2)) (head_complete f s x r o) y.3;
      is = y.4;
      to_is = e;
    }

pub next_goes : (k : KindShape) (e : PartShape) (r : OpenShape) (o : List OpenShape) → has_terms k ≡ true
    → next_term k e r o ≡ Some (At Begin (opened_with k (first_start r.before r.start e.start) (r.before ++ e.term ∷ []) [] None None None) o)
next_goes (InField x label) e r o h = absurd cc
next_goes _ e r o h = refl

pub later_start : (before : List Marked) (t : Marked) (n m : ℕ) → first_start (before ++ t ∷ []) n m ≡ n
later_start [] t n m = refl
later_start (u ∷ before) t n m = refl

pub data FieldPartRun : Bool → List Lexeme → List ℕ → List (Text × Marked) → Type 0 where
  no_field_run : (s : Bool) → FieldPartRun s [] [] []
  fields_run : (s : Bool) (ls : List Lexeme) (ns : List ℕ) (fs : List (Text × Marked)) → FieldsRun s ls ns fs → FieldPartRun s ls ns fs

pub data MethodPartRun : Bool → List Lexeme → List ℕ → List MarkedMethod → Type 0 where
  no_method_run : (s : Bool) → MethodPartRun s [] [] []
  methods_run : (s : Bool) (ls : List Lexeme) (ns : List ℕ) (xs : List MarkedMethod) (at : ℕ) → MethodsRun s ls ns xs → MethodPartRun s (lexeme tokens.Semicolon at ∷ ls) ns xs

-- an object, from its parts
pub object_runs : (s : Bool) (at close_at : ℕ) (ls us : List Lexeme) (ns ms : List ℕ) (fs : List (Text × Marked)) (xs : List MarkedMethod) → FieldPartRun s ls ns fs → MethodPartRun s us ms xs
    → (r : OpenShape) (o : List OpenShape)
    → run s (At (ObjectBegun (new_object at)) r o) (ls ++ (us ++ lexeme tokens.SquareClose close_at ∷ [])) ≡ Some (At (Have (Plain (made (object_of at (ns ++ ms) fs xs)))) r o)
object_runs s at close_at ls us ns ms fs xs (no_field_run _) (no_method_run _) r o = refl
object_runs s at close_at ls us ns ms fs xs (no_field_run _) (methods_run _ vs _ _ semicolon_at h) r o =
    let y = h at [] [] r o in
    goes_on s (At (MethodNaming (new_object at)) r o) (At (Have y.x) y.m y.q) vs (lexeme tokens.SquareClose close_at ∷ []) (Some (At (Have (Plain (made (object_of at ms fs xs)))) r o)) y.ran
    (ap (λ (f : FinishedShape). concluded close_square f >>= λ v. run s v []) y.is ∙ ap (λ (x : ObjectShape). Some (At (Have (Plain (made x))) r o)) y.to_is)
object_runs s at close_at ls us ns ms fs xs (fields_run _ _ _ _ f) (no_method_run _) r o =
    let y = f at r o in
    goes_on s (At (ObjectBegun (new_object at)) r o) (At (Have y.x) (opened_with (InField y.object y.label) 0 [] y.puts y.t y.m y.p) (r ∷ o)) ls (lexeme tokens.SquareClose close_at ∷ []) (Some (At (Have (Plain (made (object_of at (ns ++ []) fs [])))) r o)) y.ran
    (ap (λ (x : ObjectShape). Some (At (Have (Plain (made x))) r o)) y.is ∙ ap (λ (ks : List ℕ). Some (At (Have (Plain (made (object_of at ks fs [])))) r o)) (sym (append-nil ns)))
object_runs s at close_at ls us ns ms fs xs (fields_run _ _ _ _ f) (methods_run _ vs _ _ semicolon_at h) r o =
    let y = f at r o in
    let w = h at ns fs r o in
    let z : Option StateShape = Some (At (Have (Plain (made (object_of at (ns ++ ms) fs xs)))) r o) in
    let lasts : List Lexeme = vs ++ lexeme tokens.SquareClose close_at ∷ [] in
    let second : run s (At (MethodNaming (object_of at ns fs [])) r o) lasts ≡ z =
    goes_on s (At (MethodNaming (object_of at ns fs [])) r o) (At (Have w.x) w.m w.q) vs (lexeme tokens.SquareClose close_at ∷ []) z w.ran
    (ap (λ (f : FinishedShape). concluded close_square f >>= λ v. run s v []) w.is ∙ ap (λ (x : ObjectShape). Some (At (Have (Plain (made x))) r o)) w.to_is) in
    goes_on s (At (ObjectBegun (new_object at)) r o) (At (Have y.x) (opened_with (InField y.object y.label) 0 [] y.puts y.t y.m y.p) (r ∷ o)) ls (lexeme tokens.Semicolon semicolon_at ∷ lasts) z y.ran
    (ap (λ (x : ObjectShape). run s (At (MethodNaming x) r o) lasts) y.is ∙ second)
