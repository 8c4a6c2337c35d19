-- Fields and methods by the numbers of their labels.
use Rattle.std.proofs.Common.{◌≡◌, ℕ, zero, suc, ◌+◌, ◌<◌, ◌≤◌, Bool, true, false, List, [], ◌∷◌, Option, Some, None, length, map, take, drop, get_or, refl, sym, ap, subst, ◌∙◌, arith}
use Rattle.std.proofs.Math.ListN.{set}
use Rattle.std.specs.Prelude.{slice_get}
use Rattle.std.specs.Option.{option_map}
use Rattle.std.proofs.lemmas.List.{drop-drop, take_all}
use Rattle.asp_model.specs.Names.{Text, same_text}
use Rattle.asp_model.specs.Store.{Field, MethodShape}
use Rattle.asp_model.specs.Contraction.{fields_at, field_place, with_field, method_at}
use Rattle.code_table.specs.declared.class.Class.{Class}
use Rattle.code_table.specs.declared.code.MethodCode.{MethodCode}
use Rattle.code_table.specs.Pieces.{Piece}
use Rattle.code_table.specs.Tables.{text_of, labels_of, head_of, with_places, placed_method, seen_methods}
use Rattle.code_table.specs.Classes.{number_of, field_number, method_number}
use Rattle.code_table.specs.Sound.{IsSoundMethod, MethodsSound, StartFrom}

-- Numbers of labels

abbrev pub chosen : Bool → Option ℕ → Option ℕ
chosen true o = Some 0
chosen false o = option_map suc o

pub number_cons : (l x : Text) (xs : List Text) → number_of l (x ∷ xs) ≡ chosen (same_text l x) (number_of l xs)
number_cons l x xs = elim (same_text l x) as (λ (b : Bool). elim b [ true ↦ Some 0 | false ↦ option_map suc (number_of l xs) ] ≡ chosen b (number_of l xs)) [ true ↦ refl | false ↦ refl ]

abbrev IsNumber : List Text → Option ℕ → Type 0
IsNumber xs None = Unit {0}
IsNumber xs (Some i) = i < length xs

chosen_below : (x : Text) (xs : List Text) (b : Bool) (o : Option ℕ) → IsNumber xs o → IsNumber (x ∷ xs) (chosen b o)
chosen_below x xs true o h = omega arith
chosen_below x xs false None h = tt
chosen_below x xs false (Some i) h = omega (arith, h)

numbers : (l : Text) (xs : List Text) → IsNumber xs (number_of l xs)
numbers l [] = tt
numbers l (x ∷ xs) = subst (IsNumber (x ∷ xs)) (sym (number_cons l x xs)) (chosen_below x xs (same_text l x) (number_of l xs) (numbers l xs))

pub number_below : (l : Text) (xs : List Text) (i : ℕ) → number_of l xs ≡ Some i → i < length xs
number_below l xs i e = subst (IsNumber xs) e (numbers l xs)

none_of : (b : Bool) (o : Option ℕ) → chosen b o ≡ None → (b ≡ false) × (o ≡ None)
none_of true o h = cc
none_of false None h = (refl, refl)
none_of false (Some i) h = cc

-- a label that is not among the first ones may be the next one, and then has its number
pub number_here : (l : Text) (xs : List Text) (i : ℕ) (d : Text) → i < length xs → number_of l (take i xs) ≡ None → same_text l (get_or xs i d) ≡ true → number_of l xs ≡ Some i
number_here l [] i d lt h is = absurd (omega (arith, lt))
number_here l (x ∷ xs) zero d lt h is = number_cons l x xs ∙ ap (λ (b : Bool). chosen b (number_of l xs)) is
number_here l (x ∷ xs) (suc i) d lt h is =
    let less : i < length xs = omega (arith, lt) in
    let e : (same_text l x ≡ false) × (number_of l (take i xs) ≡ None) = none_of (same_text l x) (number_of l (take i xs)) (sym (number_cons l x (take i xs)) ∙ h) in
    number_cons l x xs ∙ (λ j. chosen (e.0 j) (number_here l xs i d less e.1 is j))

pub number_later : (l : Text) (xs : List Text) (i : ℕ) (d : Text) → i < length xs → number_of l (take i xs) ≡ None → same_text l (get_or xs i d) ≡ false → number_of l (take (suc i) xs) ≡ None
number_later l [] i d lt h is = absurd (omega (arith, lt))
number_later l (x ∷ xs) zero d lt h is = number_cons l x [] ∙ ap (λ (b : Bool). chosen b None) is
number_later l (x ∷ xs) (suc i) d lt h is =
    let less : i < length xs = omega (arith, lt) in
    let e : (same_text l x ≡ false) × (number_of l (take i xs) ≡ None) = none_of (same_text l x) (number_of l (take i xs)) (sym (number_cons l x (take i xs)) ∙ h) in
    number_cons l x (take (suc i) xs) ∙ (λ j. chosen (e.0 j) (number_later l xs i d less e.1 is j))

pub get_map : {A : Type 0} (name : A → Text) (xs : List A) (i : ℕ) (x : A) → i < length xs → get_or (map name xs) i (name x) ≡ name (get_or xs i x)
get_map name [] i x h = absurd (omega (arith, h))
get_map name (y ∷ ys) zero x h = refl
get_map name (y ∷ ys) (suc i) x h = let less : i < length ys = omega (arith, h) in get_map name ys i x less

pub map_size : {A B : Type 0} (f : A → B) (xs : List A) → length (map f xs) ≡ length xs
map_size f [] = refl
map_size f (x ∷ xs) = ap suc (map_size f xs)

named_here : {A : Type 0} (name : A → Text) (l : Text) (xs : List A) (i : ℕ) (x : A) (b : Bool) → same_text l (name x) ≡ b → x ≡ get_or xs i x → i < length xs → same_text l (get_or (map name xs) i (name x)) ≡ b
named_here name l xs i x b e at lt = ap (same_text l) (get_map name xs i x lt ∙ ap name (sym at)) ∙ e

pub labelled_here : {A : Type 0} (name : A → Text) (l : Text) (xs : List A) (i : ℕ) (x : A) → i < length xs → x ≡ get_or xs i x → number_of l (take i (map name xs)) ≡ None → same_text l (name x) ≡ true
    → Some i ≡ number_of l (map name xs)
labelled_here name l xs i x lt at h e = sym (number_here l (map name xs) i (name x) (subst (λ (n : ℕ). i < n) (sym (map_size name xs)) lt) h (named_here name l xs i x true e at lt))

pub labelled_later : {A : Type 0} (name : A → Text) (l : Text) (xs : List A) (i : ℕ) (x : A) → i < length xs → x ≡ get_or xs i x → number_of l (take i (map name xs)) ≡ None → same_text l (name x) ≡ false
    → number_of l (take (i + 1) (map name xs)) ≡ None
labelled_later name l xs i x lt at h e =
    let next : suc i ≡ i + 1 = omega arith in
    subst (λ (k : ℕ). number_of l (take k (map name xs)) ≡ None) next (number_later l (map name xs) i (name x) (subst (λ (n : ℕ). i < n) (sym (map_size name xs)) lt) h (named_here name l xs i x false e at lt))

pub labelled_none : {A : Type 0} (name : A → Text) (l : Text) (xs : List A) (i : ℕ) → length xs ≤ i → number_of l (take i (map name xs)) ≡ None → None ≡ number_of l (map name xs)
labelled_none name l xs i le h = sym (ap (number_of l) (sym (take_all i (map name xs) (subst (λ (n : ℕ). n ≤ i) (sym (map_size name xs)) le))) ∙ h)

-- Fields

-- the place with a number, if it has one
abbrev pub place_at : List ℕ → Option ℕ → Option ℕ
place_at ns None = None
place_at ns (Some i) = slice_get ns i

place_at-nil : (o : Option ℕ) → place_at [] o ≡ None
place_at-nil None = refl
place_at-nil (Some i) = refl

place_chosen : (n : ℕ) (ns : List ℕ) (b : Bool) (o p : Option ℕ) → p ≡ place_at ns o → elim b [ true ↦ Some n | false ↦ p ] ≡ place_at (n ∷ ns) (chosen b o)
place_chosen n ns true o p h = refl
place_chosen n ns false None p h = h
place_chosen n ns false (Some i) p h = h

places_by_number : (l : Text) (ls : List Text) (ns : List ℕ) → field_place l (fields_at ls ns) ≡ place_at ns (number_of l ls)
places_by_number l [] ns = refl
places_by_number l (x ∷ ls) [] = sym (place_at-nil (number_of l (x ∷ ls)))
places_by_number l (x ∷ ls) (n ∷ ns) =
    place_chosen n ns (same_text l x) (number_of l ls) (field_place l (fields_at ls ns)) (places_by_number l ls ns)
    ∙ ap (place_at (n ∷ ns)) (sym (number_cons l x ls))

-- the place of a field is the one at its label's number
pub field_by_number : (l : Text) (k : Class) (ns : List ℕ) → field_place l (fields_at (labels_of k) ns) ≡ place_at ns (field_number l k)
field_by_number l k ns = places_by_number l (labels_of k) ns

get_within : (ns : List ℕ) (i : ℕ) → i < length ns → slice_get ns i ≡ Some (get_or ns i 0)
get_within [] i h = absurd (omega (arith, h))
get_within (n ∷ ns) zero h = refl
get_within (n ∷ ns) (suc i) h = let less : i < length ns = omega (arith, h) in get_within ns i less

pub field_found : (l : Text) (k : Class) (ns : List ℕ) (i : ℕ) → field_number l k ≡ Some i → i < length ns → field_place l (fields_at (labels_of k) ns) ≡ Some (get_or ns i 0)
field_found l k ns i e lt = field_by_number l k ns ∙ ap (place_at ns) e ∙ get_within ns i lt

pub field_missing : (l : Text) (k : Class) (ns : List ℕ) → field_number l k ≡ None → field_place l (fields_at (labels_of k) ns) ≡ None
field_missing l k ns e = field_by_number l k ns ∙ ap (place_at ns) e

abbrev set_at : List ℕ → Option ℕ → ℕ → List ℕ
set_at ns None n = ns
set_at ns (Some i) n = set ns i n

set_chosen : (l x : Text) (n m : ℕ) (ls : List Text) (ns : List ℕ) (b : Bool) (o : Option ℕ) → with_field l m (fields_at ls ns) ≡ fields_at ls (set_at ns o m)
    → (let f : Field = record { label = x; place = n } in let g : Field = record { label = x; place = m } in
    elim b [ true ↦ g ∷ fields_at ls ns | false ↦ f ∷ with_field l m (fields_at ls ns) ] ≡ fields_at (x ∷ ls) (set_at (n ∷ ns) (chosen b o) m))
set_chosen l x n m ls ns true o h = refl
set_chosen l x n m ls ns false None h = λ i. record { label = x; place = n } ∷ h i
set_chosen l x n m ls ns false (Some k) h = λ i. record { label = x; place = n } ∷ h i

set_nil : (x : Text) (ls : List Text) (o : Option ℕ) (m : ℕ) → (let no_field : List Field = [] in no_field ≡ fields_at (x ∷ ls) (set_at [] o m))
set_nil x ls None m = refl
set_nil x ls (Some i) m = refl

sets_by_number : (l : Text) (m : ℕ) (ls : List Text) (ns : List ℕ) → with_field l m (fields_at ls ns) ≡ fields_at ls (set_at ns (number_of l ls) m)
sets_by_number l m [] ns = refl
sets_by_number l m (x ∷ ls) [] = set_nil x ls (number_of l (x ∷ ls)) m
sets_by_number l m (x ∷ ls) (n ∷ ns) =
    set_chosen l x n m ls ns (same_text l x) (number_of l ls) (sets_by_number l m ls ns)
    ∙ ap (λ (o : Option ℕ). fields_at (x ∷ ls) (set_at (n ∷ ns) o m)) (sym (number_cons l x ls))

-- to put a place into a field is to put it at the label's number
pub field_put : (l : Text) (m : ℕ) (k : Class) (ns : List ℕ) (i : ℕ) → field_number l k ≡ Some i → with_field l m (fields_at (labels_of k) ns) ≡ fields_at (labels_of k) (set ns i m)
field_put l m k ns i e = sets_by_number l m (labels_of k) ns ∙ ap (λ (o : Option ℕ). fields_at (labels_of k) (set_at ns o m)) e

-- Methods

abbrev method_labels : List MethodCode → List Text
method_labels ms = map (λ m. (head_of m).label) ms

-- the method with a number, if it has one, over the places of its object
abbrev method_or : List Piece → List MethodCode → MethodCode → List ℕ → Option ℕ → Option MethodShape
method_or ps ms d ns None = None
method_or ps ms d ns (Some i) = Some (placed_method ps (get_or ms i d) ns)

method_chosen : (ps : List Piece) (m : MethodCode) (ms : List MethodCode) (d : MethodCode) (ns : List ℕ) (x : MethodShape) (b : Bool) (o : Option ℕ) (p : Option MethodShape)
    → x ≡ placed_method ps m ns → p ≡ method_or ps ms d ns o → elim b [ true ↦ Some x | false ↦ p ] ≡ method_or ps (m ∷ ms) d ns (chosen b o)
method_chosen ps m ms d ns x true o p e h = ap (λ (y : MethodShape). Some y) e
method_chosen ps m ms d ns x false None p e h = h
method_chosen ps m ms d ns x false (Some i) p e h = h

methods_by_number : (l : Text) (ps : List Piece) (ms : List MethodCode) (d : MethodCode) (s : ℕ) (ns : List ℕ) → StartFrom s ms → method_at l (seen_methods ps ms (drop s ns)) ≡ method_or ps ms d ns (number_of l (method_labels ms))
methods_by_number l ps [] d s ns h = refl
methods_by_number l ps (m ∷ ms) d s ns h =
    let size : ℕ = length m.captured.items in
    let here : with_places ps m (take size (drop s ns)) ≡ placed_method ps m ns = ap (λ (k : ℕ). with_places ps m (take size (drop k ns))) (sym h.0) in
    let others : method_at l (seen_methods ps ms (drop size (drop s ns))) ≡ method_or ps ms d ns (number_of l (method_labels ms)) =
    ap (λ (r : List ℕ). method_at l (seen_methods ps ms r)) (drop-drop size s ns) ∙ methods_by_number l ps ms d (s + size) ns h.1 in
    method_chosen ps m ms d ns (with_places ps m (take size (drop s ns))) (same_text l m.label.text) (number_of l (method_labels ms)) (method_at l (seen_methods ps ms (drop size (drop s ns)))) here others
    ∙ ap (method_or ps (m ∷ ms) d ns) (sym (number_cons l m.label.text (method_labels ms)))

-- the method with a label is the one at the label's number, over what it captured among the places of its object
pub method_found : (l : Text) (ps : List Piece) (k : Class) (d : MethodCode) (ns : List ℕ) (i : ℕ) → StartFrom (length k.fields.items) k.methods.items → method_number l k ≡ Some i
    → method_at l (seen_methods ps k.methods.items (drop (length k.fields.items) ns)) ≡ Some (placed_method ps (get_or k.methods.items i d) ns)
method_found l ps k d ns i h e = methods_by_number l ps k.methods.items d (length k.fields.items) ns h ∙ ap (method_or ps k.methods.items d ns) e

no_method_found : (l : Text) (ps : List Piece) (ms : List MethodCode) (ns : List ℕ) → number_of l (method_labels ms) ≡ None → method_at l (seen_methods ps ms ns) ≡ None
no_method_found l ps [] ns h = refl
no_method_found l ps (m ∷ ms) ns h =
    let e : (same_text l m.label.text ≡ false) × (number_of l (method_labels ms) ≡ None) = none_of (same_text l m.label.text) (number_of l (method_labels ms)) (sym (number_cons l m.label.text (method_labels ms)) ∙ h) in
    let size : ℕ = length m.captured.items in
    ap (λ (b : Bool). elim b [ true ↦ Some (with_places ps m (take size ns)) | false ↦ method_at l (seen_methods ps ms (drop size ns)) ]) e.0 ∙ no_method_found l ps ms (drop size ns) e.1

pub method_missing : (l : Text) (ps : List Piece) (k : Class) (ns : List ℕ) → method_number l k ≡ None → method_at l (seen_methods ps k.methods.items ns) ≡ None
method_missing l ps k ns e = no_method_found l ps k.methods.items ns e

pub method_within : (l : Text) (k : Class) (i : ℕ) → method_number l k ≡ Some i → i < length k.methods.items
method_within l k i e = subst (λ (n : ℕ). i < n) (map_size (λ (m : MethodCode). (head_of m).label) k.methods.items) (number_below l (method_labels k.methods.items) i e)

pub field_within : (l : Text) (k : Class) (i : ℕ) → field_number l k ≡ Some i → i < length k.fields.items
field_within l k i e = subst (λ (n : ℕ). i < n) (map_size text_of k.fields.items) (number_below l (labels_of k) i e)

-- each of sound methods is sound
pub sound_method_at : (ps : List Piece) (ms : List MethodCode) (i : ℕ) (d : MethodCode) → i < length ms → MethodsSound ps ms → IsSoundMethod ps (get_or ms i d)
sound_method_at ps [] i d h s = absurd (omega (arith, h))
sound_method_at ps (m ∷ ms) zero d h s = s.0
sound_method_at ps (m ∷ ms) (suc i) d h s = let less : i < length ms = omega (arith, h) in sound_method_at ps ms i d less s.1
