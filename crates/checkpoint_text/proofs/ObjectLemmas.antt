-- Objects: fields and methods with the terms that stand below their node.
use Rattle.std.proofs.Common.{◌≡◌, suc, ◌+◌, ◌≤◌, List, [], ◌∷◌, ◌++◌, length, map, take, drop, refl, sym, ap, ◌∙◌, append_assoc, length-append, arith}
use Rattle.std.specs.List.{flat_map}
use Rattle.std.specs.Fmt.{decimal}
use Rattle.std.proofs.lemmas.List.{append-nil, length-map}
use Rattle.asp_model.specs.Names.{Text}
use Rattle.asp_model.specs.Term.{MethodHead, Make, Tree, Trees, node, none, more, trees, child_count}
use Rattle.checkpoint_text.specs.Items.{Items, list_items, text_items, pair_items, field_items, method_items, methods_items, head_items, term_items, items_below}
use Rattle.checkpoint_text.specs.Reading.{Reader, both, list_of, text, method_with, object_tree}
use Rattle.checkpoint_text.specs.Writable.{AreAll, IsList, IsText, IsMethodHead, AllBelow, IsNode}
use Rattle.checkpoint_text.proofs.CodecLemmas.{IsCodec, both_codec, reads_codec, list_codec}
use Rattle.checkpoint_text.proofs.TermLemmas.{text_codec, texts_codec, below_none, below_trees, count_trees}

-- Each with the term that stands below for it

abbrev pub zipped : {K : Type 0} → List K → Trees → List (K × Tree)
zipped [] ts = []
zipped (k ∷ ks) none = []
zipped (k ∷ ks) (more t ts) = (k, t) ∷ zipped ks ts

-- the terms behind these
abbrev pub behind : {K : Type 0} → List K → Trees → Trees
behind [] ts = ts
behind (k ∷ ks) none = none
behind (k ∷ ks) (more t ts) = behind ks ts

zip_names : {K : Type 0} (ks : List K) (ts : Trees) → length ks ≤ child_count ts → map (λ x. x.0) (zipped ks ts) ≡ ks
zip_names [] ts h = refl
zip_names (k ∷ ks) none h = absurd (omega arith)
zip_names {K} (k ∷ ks) (more t ts) h = ap (λ (l : List K). k ∷ l) (zip_names ks ts (omega arith))

zip_length : {K : Type 0} (ks : List K) (ts : Trees) → length ks ≤ child_count ts → length ks ≡ length (zipped ks ts)
zip_length [] ts h = refl
zip_length (k ∷ ks) none h = absurd (omega arith)
zip_length (k ∷ ks) (more t ts) h = ap suc (zip_length ks ts (omega arith))

zip_trees : {K : Type 0} (ks : List K) (ts : Trees) (us : List Tree) → length ks ≤ child_count ts → trees us ≡ behind ks ts → trees (map (λ x. x.1) (zipped ks ts) ++ us) ≡ ts
zip_trees [] ts us h e = e
zip_trees (k ∷ ks) none us h e = absurd (omega arith)
zip_trees (k ∷ ks) (more t ts) us h e = ap (more t) (zip_trees ks ts us (omega arith) e)

zip_count : {K : Type 0} (ks : List K) (ts : Trees) → length ks ≤ child_count ts → child_count ts ≡ length ks + child_count (behind ks ts)
zip_count [] ts h = omega arith
zip_count (k ∷ ks) none h = absurd (omega arith)
zip_count (k ∷ ks) (more t ts) h = let e = zip_count ks ts (omega arith) in omega (arith, e)

zip_drop : {K : Type 0} (ks : List K) (ts : Trees) → drop (length ks) (items_below ts) ≡ items_below (behind ks ts)
zip_drop [] ts = refl
zip_drop (k ∷ ks) none = refl
zip_drop (k ∷ ks) (more t ts) = zip_drop ks ts

zip_all : {K : Type 0} (P : K → Type 0) (Q : Tree → Type 0) (ks : List K) (ts : Trees) → AreAll P ks → AllBelow Q ts → AreAll (λ z. P z.0 × Q z.1) (zipped ks ts)
zip_all P Q [] ts h a = tt
zip_all P Q (k ∷ ks) none h a = tt
zip_all P Q (k ∷ ks) (more t ts) h a = ((h.0, a.0), zip_all P Q ks ts h.1 a.1)

behind_all : {K : Type 0} (Q : Tree → Type 0) (ks : List K) (ts : Trees) → AllBelow Q ts → AllBelow Q (behind ks ts)
behind_all Q [] ts a = a
behind_all Q (k ∷ ks) none a = tt
behind_all Q (k ∷ ks) (more t ts) a = behind_all Q ks ts a.1

zip_back : {K : Type 0} (xs : List (K × Tree)) (us : List Tree) → zipped (map (λ x. x.0) xs) (trees (map (λ x. x.1) xs ++ us)) ≡ xs
zip_back [] us = refl
zip_back {K} (x ∷ xs) us = ap (λ (l : List (K × Tree)). x ∷ l) (zip_back xs us)

zip_whole : {K : Type 0} (xs : List (K × Tree)) → zipped (map (λ x. x.0) xs) (trees (map (λ x. x.1) xs)) ≡ xs
zip_whole [] = refl
zip_whole {K} (x ∷ xs) = ap (λ (l : List (K × Tree)). x ∷ l) (zip_whole xs)

behind_back : {K : Type 0} (xs : List (K × Tree)) (us : List Tree) → behind (map (λ x. x.0) xs) (trees (map (λ x. x.1) xs ++ us)) ≡ trees us
behind_back [] us = refl
behind_back (x ∷ xs) us = behind_back xs us

-- Items

abbrev pub field_by : Text × Tree → Items
field_by x = text_items x.0 ++ term_items x.1

abbrev pub method_by : MethodHead × Tree → Items
method_by x = method_items x.0 (term_items x.1)

zip_fields : (ls : List Text) (ts : Trees) → length ls ≤ child_count ts → field_items ls (take (length ls) (items_below ts)) ≡ flat_map field_by (zipped ls ts)
zip_fields [] ts h = refl
zip_fields (l ∷ ls) none h = absurd (omega arith)
zip_fields (l ∷ ls) (more t ts) h = ap (λ (items : Items). (text_items l ++ term_items t) ++ items) (zip_fields ls ts (omega arith))

zip_methods : (ms : List MethodHead) (ts : Trees) → length ms ≤ child_count ts → methods_items ms (items_below ts) ≡ flat_map method_by (zipped ms ts)
zip_methods [] ts h = refl
zip_methods (m ∷ ms) none h = absurd (omega arith)
zip_methods (m ∷ ms) (more t ts) h = ap (λ (items : Items). method_items m (term_items t) ++ items) (zip_methods ms ts (omega arith))

pub object_items : (ls : List Text) (ms : List MethodHead) (ts : Trees) → child_count ts ≡ length ls + length ms
    → head_items (Make ls ms) (items_below ts) ≡ list_items field_by (zipped ls ts) ++ list_items method_by (zipped ms (behind ls ts))
object_items ls ms ts n =
    let count = zip_count ls ts (omega arith) in
    let first = zip_length ls ts (omega arith) in
    let second = zip_length ms (behind ls ts) (omega (arith, count)) in
    let fields = zip_fields ls ts (omega arith) in
    let methods : methods_items ms (drop (length ls) (items_below ts)) ≡ flat_map method_by (zipped ms (behind ls ts)) =
    ap (methods_items ms) (zip_drop ls ts) ∙ zip_methods ms (behind ls ts) (omega (arith, count)) in
    (λ i. (decimal (first i) ∷ fields i) ++ (decimal (second i) ∷ methods i))

pub object_again : (ls : List Text) (ms : List MethodHead) (ts : Trees) → child_count ts ≡ length ls + length ms
    → object_tree (zipped ls ts) (zipped ms (behind ls ts)) ≡ node (Make ls ms) ts
object_again ls ms ts n =
    let count = zip_count ls ts (omega arith) in
    let labels = zip_names ls ts (omega arith) in
    let heads = zip_names ms (behind ls ts) (omega (arith, count)) in
    let last = zip_count ms (behind ls ts) (omega (arith, count)) in
    let bodies : List Tree = map (λ x. x.1) (zipped ms (behind ls ts)) in
    let over : none ≡ behind ms (behind ls ts) = sym (below_none (λ t. Unit {0}) (behind ms (behind ls ts)) (omega (arith, count, last))) in
    let others : trees bodies ≡ behind ls ts =
    ap trees (sym (append-nil bodies)) ∙ zip_trees ms (behind ls ts) [] (omega (arith, count)) over in
    let all = zip_trees ls ts bodies (omega arith) others in
    (λ i. node (Make (labels i) (heads i)) (all i))

-- A reader of fields and methods, over one of terms

bracketed : (a b c d : Items) → a ++ (b ++ (c ++ d)) ≡ ((a ++ b) ++ c) ++ d
bracketed a b c d = sym (append_assoc (a ++ b) c d ∙ append_assoc a b (c ++ d))

module _ (p : Reader Tree) (Q : Tree → Type 0) (c : IsCodec p term_items Q) where
  pub method_codec : IsCodec (method_with p) method_by (λ x. IsMethodHead x.0 × Q x.1)
  method_codec =
      let tail = both_codec (list_of text) p (list_items text_items) term_items (IsList IsText) Q texts_codec c in
      let named = both_codec text (both (list_of text) p) text_items (pair_items (list_items text_items) term_items) IsText (λ r. IsList IsText r.0 × Q r.1) text_codec tail in
      let all = both_codec text (both text (both (list_of text) p)) text_items (pair_items text_items (pair_items (list_items text_items) term_items)) IsText (λ r. IsText r.0 × (IsList IsText r.1.0 × Q r.1.1)) text_codec named in
      reads_codec (both text (both text (both (list_of text) p)))
      (pair_items text_items (pair_items text_items (pair_items (list_items text_items) term_items)))
      (λ r. IsText r.0 × (IsText r.1.0 × (IsList IsText r.1.1.0 × Q r.1.1.1)))
      (λ r. (record { label = r.0; slf = r.1.0; parameters = r.1.1.0 }, r.1.1.1))
      (λ x. (x.0.label, (x.0.slf, (x.0.parameters, x.1))))
      method_by (λ x. IsMethodHead x.0 × Q x.1) all
      (λ x h. (h.0.0, (h.0.1.0, (h.0.1.1, h.1)))) (λ x h. refl) (λ r h. ((h.0, (h.1.0, h.1.1.0)), h.1.1.1))
      (λ r. bracketed (text_items r.0) (text_items r.1.0) (list_items text_items r.1.1.0) (term_items r.1.1.1))

  pub fields_codec : IsCodec (list_of (both text p)) (list_items field_by) (IsList (λ x. IsText x.0 × Q x.1))
  fields_codec = list_codec (both text p) field_by (λ x. IsText x.0 × Q x.1) (both_codec text p text_items term_items IsText Q text_codec c)

  pub methods_codec : IsCodec (list_of (method_with p)) (list_items method_by) (IsList (λ x. IsMethodHead x.0 × Q x.1))
  methods_codec = list_codec (method_with p) method_by (λ x. IsMethodHead x.0 × Q x.1) method_codec

  abbrev pub IsObject : List (Text × Tree) × List (MethodHead × Tree) → Type 0
  IsObject r = IsList (λ x. IsText x.0 × Q x.1) r.0 × IsList (λ x. IsMethodHead x.0 × Q x.1) r.1

  abbrev pub object_by : List (Text × Tree) × List (MethodHead × Tree) → Items
  object_by = pair_items (list_items field_by) (list_items method_by)

  pub object_codec : IsCodec (both (list_of (both text p)) (list_of (method_with p))) object_by IsObject
  object_codec = both_codec (list_of (both text p)) (list_of (method_with p)) (list_items field_by) (list_items method_by)
      (IsList (λ x. IsText x.0 × Q x.1)) (IsList (λ x. IsMethodHead x.0 × Q x.1)) fields_codec methods_codec

-- what stands below an object items fields and methods
pub object_parts : (Q : Tree → Type 0) (ls : List Text) (ms : List MethodHead) (ts : Trees) → child_count ts ≡ length ls + length ms → IsList IsText ls → IsList IsMethodHead ms → AllBelow Q ts
    → IsList (λ x. IsText x.0 × Q x.1) (zipped ls ts) × IsList (λ x. IsMethodHead x.0 × Q x.1) (zipped ms (behind ls ts))
object_parts Q ls ms ts n h g a =
    let count = zip_count ls ts (omega arith) in
    let first = zip_length ls ts (omega arith) in
    let second = zip_length ms (behind ls ts) (omega (arith, count)) in
    ((omega (arith, first, h.0), zip_all IsText Q ls ts h.1 a), (omega (arith, second, g.0), zip_all IsMethodHead Q ms (behind ls ts) g.1 (behind_all Q ls ts a)))

all_first : {K : Type 0} (P : K → Type 0) (Q : Tree → Type 0) (xs : List (K × Tree)) → AreAll (λ x. P x.0 × Q x.1) xs → AreAll P (map (λ x. x.0) xs)
all_first P Q [] h = tt
all_first P Q (x ∷ xs) h = (h.0.0, all_first P Q xs h.1)

all_second : {K : Type 0} (P : K → Type 0) (Q : Tree → Type 0) (xs : List (K × Tree)) (us : List Tree) → AreAll (λ x. P x.0 × Q x.1) xs → AreAll Q us → AreAll Q (map (λ x. x.1) xs ++ us)
all_second P Q [] us h g = g
all_second P Q (x ∷ xs) us h g = (h.0.1, all_second P Q xs us h.1 g)

second_all : {K : Type 0} (P : K → Type 0) (Q : Tree → Type 0) (xs : List (K × Tree)) → AreAll (λ x. P x.0 × Q x.1) xs → AreAll Q (map (λ x. x.1) xs)
second_all P Q [] h = tt
second_all P Q (x ∷ xs) h = (h.0.1, second_all P Q xs h.1)

object_count : (xs : List (Text × Tree)) (ys : List (MethodHead × Tree)) → child_count (trees (map (λ x. x.1) xs ++ map (λ y. y.1) ys)) ≡ length (map (λ x. x.0) xs) + length (map (λ y. y.0) ys)
object_count xs ys =
    let fs : List Tree = map (λ x. x.1) xs in
    let bs : List Tree = map (λ y. y.1) ys in
    omega (arith, count_trees (fs ++ bs), length-append fs bs, length-map xs (λ (x : Text × Tree). x.1), length-map ys (λ (y : MethodHead × Tree). y.1), length-map xs (λ (x : Text × Tree). x.0), length-map ys (λ (y : MethodHead × Tree). y.0))

pub object_written : (xs : List (Text × Tree)) (ys : List (MethodHead × Tree)) → term_items (object_tree xs ys) ≡ decimal 4 ∷ (list_items field_by xs ++ list_items method_by ys)
object_written xs ys =
    let ls : List Text = map (λ x. x.0) xs in
    let ms : List MethodHead = map (λ y. y.0) ys in
    let bs : List Tree = map (λ y. y.1) ys in
    let ts : Trees = trees (map (λ x. x.1) xs ++ bs) in
    let methods : zipped ms (behind ls ts) ≡ ys = ap (zipped ms) (behind_back xs bs) ∙ zip_whole ys in
    ap (λ (items : Items). decimal 4 ∷ items) (object_items ls ms ts (object_count xs ys)
    ∙ (λ i. list_items field_by (zip_back xs bs i) ++ list_items method_by (methods i)))

pub object_is_node : (Q : Tree → Type 0) (xs : List (Text × Tree)) (ys : List (MethodHead × Tree)) → IsList (λ x. IsText x.0 × Q x.1) xs → IsList (λ x. IsMethodHead x.0 × Q x.1) ys → IsNode Q (object_tree xs ys)
object_is_node Q xs ys h g =
    let first = length-map xs (λ (x : Text × Tree). x.0) in
    let second = length-map ys (λ (y : MethodHead × Tree). y.0) in (
      ((omega (arith, first, h.0), all_first IsText Q xs h.1), (omega (arith, second, g.0), all_first IsMethodHead Q ys g.1)),
      object_count xs ys,
      below_trees Q (map (λ x. x.1) xs ++ map (λ y. y.1) ys) (all_second IsText Q xs (map (λ y. y.1) ys) h.1 (second_all IsMethodHead Q ys g.1)),
    )
