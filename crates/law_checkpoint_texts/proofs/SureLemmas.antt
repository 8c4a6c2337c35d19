-- Sure readers: what they read of a value's items at all, they read as that value, and leave what stands behind.
use Rattle.std.proofs.Common.{◌≡◌, ℕ, ℤ, ◌<◌, ◌≤◌, ◌^◌, List, [], ◌∷◌, ◌++◌, length, get_or, drop, Option, Some, None, refl, sym, ap, ◌∙◌, append_assoc, arith}
use Rattle.std.specs.List.{flat_map}
use Rattle.std.specs.Fmt.{decimal, signed_decimal}
use Rattle.asp_model.specs.Names.{Text}
use Rattle.checkpoint_text.specs.Items.{Items, number_items, signed_items, list_items, option_items, pair_items}
use Rattle.checkpoint_text.specs.Reading.{Reader, told, reads, nothing, then_read, both, chosen, choose, reader_at, number_to, signed, times, list_of, option_of, variant}
use Rattle.checkpoint_text.specs.Writable.{AreAll, IsOptional}
use Rattle.checkpoint_text.proofs.NumberLemmas.{some_same, below_is_written, signed_is_written}
use Rattle.checkpoint_text.proofs.CodecLemmas.{was_told, was_chosen, number_codec}
use Rattle.law_checkpoint_texts.proofs.NumberLemmas.{number_same, signed_same}

-- such values, whatever stands behind their items
pub record IsSureOf {X : Type 0} (p : Reader X) (f : X → Items) (S : X → Type 0) : Type 0 where
  pub sure : (x : X) (ws : Items) (r : X × Items) → S x → p (f x ++ ws) ≡ Some r → r ≡ (x, ws)

-- any value
abbrev pub IsAny : {X : Type 0} → X → Type 0
IsAny x = Unit {0}

pub all_any : {X : Type 0} (xs : List X) → AreAll (λ x. IsAny x) xs
all_any [] = tt
all_any (x ∷ xs) = (tt, all_any xs)

-- of fewer values
pub fewer_sure : {X : Type 0} {p : Reader X} {f : X → Items} {S T : X → Type 0} → IsSureOf p f S → ((x : X) → T x → S x)
    → IsSureOf p f T
fewer_sure s h = record { sure = λ x ws r t e. s.sure x ws r (h x t) e }

-- Combinations

was_then : {X Y : Type 0} (o : Option (X × Items)) (q : Reader Y) (r : (X × Y) × Items) → then_read o q ≡ Some r
    → (vs : Items) × (o ≡ Some (r.0.0, vs)) × (q vs ≡ Some (r.0.1, r.1))
was_then None q r e = absurd cc
was_then {X} {Y} (Some v) q r e =
    let t = was_told {X = Y} {Y = X × Y} (λ y. (v.0, y)) (q v.1) r.0 r.1 e in (
      v.1,
      ap {B = Option (X × Items)} (λ z. Some (z.0, v.1)) t.2,
      t.1
          ∙ ap {B = Option (Y × Items)} (λ z. Some (z.1, r.1)) t.2,
    )

pub both_sure : {X Y : Type 0} {p : Reader X} {q : Reader Y} {f : X → Items} {g : Y → Items} {S : X → Type 0}
    {T : Y → Type 0}
    → IsSureOf p f S → IsSureOf q g T → IsSureOf (both p q) (pair_items f g) (λ z. S z.0 × T z.1)
both_sure {X} {Y} {p} {q} {f} {g} s t = record {
  sure = λ z ws r h e.
      let w = was_then (p (f z.0 ++ (g z.1 ++ ws))) q r (ap (both p q) (sym (append_assoc (f z.0) (g z.1) ws)) ∙ e) in
      let a = s.sure z.0 (g z.1 ++ ws) (r.0.0, w.0) h.0 w.1 in
      let b = t.sure z.1 ws (r.0.1, r.1) h.1 (ap (λ (v : X × Items). q v.1) (sym a) ∙ w.2) in
      (λ i. (((a i).0, (b i).0), (b i).1));
}

-- the same values in another shape
pub reads_sure : {X Y : Type 0} (p : Reader X) (f : X → Items) (S : X → Type 0) (h : X → Y) (k : Y → X) (g : Y → Items)
    (T : Y → Type 0)
    → IsSureOf p f S → ((y : Y) → T y → S (k y)) → ((y : Y) → T y → h (k y) ≡ y) → ((y : Y) → f (k y) ≡ g y)
    → IsSureOf (reads p h) g T
reads_sure {X} {Y} p f S h k g T s to back same = record {
  sure = λ y ws r q e.
      let t = was_told h (p (g y ++ ws)) r.0 r.1 e in
      let a = s.sure (k y) ws (t.0, r.1) (to y q) (ap (λ (items : Items). p (items ++ ws)) (same y) ∙ t.1) in
      let first : r ≡ (h t.0, r.1) = (λ i. (sym t.2 i, r.1)) in
      let second : (h t.0, r.1) ≡ (h (k y), ws) = (λ i. (h (a i).0, (a i).1)) in
      let third : (h (k y), ws) ≡ (y, ws) = (λ i. (back y q i, ws)) in
      first ∙ second ∙ third;
}

-- Numbers

head_same : (x y : Text) (xs ys : Items) → x ∷ xs ≡ y ∷ ys → x ≡ y
head_same x y xs ys e = ap (λ (l : Items). get_or l 0 []) e

tail_same : (x y : Text) (xs ys : Items) → x ∷ xs ≡ y ∷ ys → xs ≡ ys
tail_same x y xs ys e = ap (λ (l : Items). drop 1 l) e

one_number : (bound : ℕ) → bound ≤ 2 ^ 64 → (n : ℕ) (ws : Items) (r : ℕ × Items)
    → number_to bound (number_items n ++ ws) ≡ Some r → r ≡ (n, ws)
one_number bound small n ws r e =
    let t = below_is_written bound r.0 (decimal n ∷ ws) r.1 small e in
    let same : n ≡ r.0 = number_same n r.0 (omega (arith, small, t.1))
    (head_same (decimal n) (decimal r.0) ws r.1 t.0) in
    let left : ws ≡ r.1 = tail_same (decimal n) (decimal r.0) ws r.1 t.0 in
    sym (λ i. (same i, left i))

pub number_sure : (bound : ℕ) → bound ≤ 2 ^ 64 → IsSureOf (number_to bound) number_items (λ n. IsAny n)
number_sure bound small = record { sure = λ n ws r h e. one_number bound small n ws r e }

one_signed : (z : ℤ) (ws : Items) (r : ℤ × Items) → signed (signed_items z ++ ws) ≡ Some r → r ≡ (z, ws)
one_signed z ws r e =
    let t = signed_is_written r.0 (signed_decimal z ∷ ws) r.1 e in
    let same : z ≡ r.0 = signed_same z r.0 t.1 (head_same (signed_decimal z) (signed_decimal r.0) ws r.1 t.0) in
    let left : ws ≡ r.1 = tail_same (signed_decimal z) (signed_decimal r.0) ws r.1 t.0 in
    sym (λ i. (same i, left i))

pub signed_sure : IsSureOf signed signed_items (λ z. IsAny z)
signed_sure = record { sure = λ z ws r h e. one_signed z ws r e }

-- Lists

times_sure : {X : Type 0} (p : Reader X) (f : X → Items) (S : X → Type 0) → IsSureOf p f S
    → (xs : List X) (ws : Items) (r : List X × Items) → AreAll S xs
    → times p (length xs) (flat_map f xs ++ ws) ≡ Some r → r ≡ (xs, ws)
times_sure {X} p f S s [] ws r h e = sym (some_same ([], ws) r e)
times_sure {X} p f S s (x ∷ xs) ws r h e =
    let after : X → Items → Option (List X × Items) = λ y us. told (λ ys. y ∷ ys) (times p (length xs) us) in
    let w = was_chosen (p (f x ++ (flat_map f xs ++ ws))) after r.0 r.1
    (ap (λ (items : Items). chosen (p items) after) (sym (append_assoc (f x) (flat_map f xs) ws)) ∙ e) in
    let a = s.sure x (flat_map f xs ++ ws) (w.0, w.1) h.0 w.2 in
    let t = was_told (λ (ys : List X). x ∷ ys) (times p (length xs) (flat_map f xs ++ ws)) r.0 r.1
    (ap (λ (v : X × Items). after v.0 v.1) (sym a) ∙ w.3) in
    let b = times_sure p f S s xs ws (t.0, r.1) h.1 t.1 in
    let first : r ≡ (x ∷ t.0, r.1) = (λ i. (sym t.2 i, r.1)) in
    let second : (x ∷ t.0, r.1) ≡ (x ∷ xs, ws) = (λ i. (x ∷ (b i).0, (b i).1)) in
    first ∙ second

pub list_sure : {X : Type 0} {p : Reader X} {f : X → Items} {S : X → Type 0} → IsSureOf p f S
    → IsSureOf (list_of p) (list_items f) (AreAll S)
list_sure {X} {p} {f} {S} s = record {
  sure = λ xs ws r h e.
      let w = was_chosen (number_to (2 ^ 64) (decimal (length xs) ∷ (flat_map f xs ++ ws))) (times p) r.0 r.1 e in
      let a = one_number (2 ^ 64) (omega arith) (length xs) (flat_map f xs ++ ws) (w.0, w.1) w.2 in
      times_sure p f S s xs ws r h (ap (λ (v : ℕ × Items). times p v.0 v.1) (sym a) ∙ w.3);
}

-- of any values
pub any_list_sure : {X : Type 0} {p : Reader X} {f : X → Items} → IsSureOf p f (λ x. IsAny x)
    → IsSureOf (list_of p) (list_items f) (λ xs. IsAny xs)
any_list_sure {X} s = fewer_sure (list_sure s) (λ xs h. all_any xs)

-- Variants

-- the reader at a number reads on
pub at_number : {X : Type 0} (bound k : ℕ) (ps : List (Reader X)) (items ws : Items) (r : X × Items) → bound ≤ 2 ^ 64
    → k < bound
    → choose (number_to bound) (reader_at ps) ((decimal k ∷ items) ++ ws) ≡ Some r
    → reader_at ps k (items ++ ws) ≡ Some r
at_number {X} bound k ps items ws r small below e =
    sym (ap (λ (o : Option (ℕ × Items)). chosen o (reader_at ps))
    ((number_codec bound small).gives k (items ++ ws) below)) ∙ e

pub at_variant : {X : Type 0} (k : ℕ) (ps : List (Reader X)) (items ws : Items) (r : X × Items) → k < 2 ^ 64
    → variant ps ((decimal k ∷ items) ++ ws) ≡ Some r → reader_at ps k (items ++ ws) ≡ Some r
at_variant k ps items ws r below e = at_number (2 ^ 64) k ps items ws r (omega arith) below e

-- a variant with nothing behind its number
pub nothing_sure : {X : Type 0} (x : X) (ws : Items) (r : X × Items) → nothing x ws ≡ Some r → r ≡ (x, ws)
nothing_sure x ws r e = sym (some_same (x, ws) r e)

-- a variant with a value behind it
pub value_sure : {X Y : Type 0} {p : Reader X} {f : X → Items} {S : X → Type 0} → IsSureOf p f S
    → (h : X → Y) (x : X) (items ws : Items) (r : Y × Items) (y : Y)
    → S x → items ≡ f x → h x ≡ y → reads p h (items ++ ws) ≡ Some r → r ≡ (y, ws)
value_sure {X} {Y} {p} {f} s h x items ws r y good same is e =
    let t = was_told h (p (items ++ ws)) r.0 r.1 e in
    let a = s.sure x ws (t.0, r.1) good (ap (λ (us : Items). p (us ++ ws)) (sym same) ∙ t.1) in
    let first : r ≡ (h t.0, r.1) = (λ i. (sym t.2 i, r.1)) in
    let second : (h t.0, r.1) ≡ (h x, ws) = (λ i. (h (a i).0, (a i).1)) in
    let third : (h x, ws) ≡ (y, ws) = (λ i. (is i, ws)) in
    first ∙ second ∙ third

-- Options

one_option : {X : Type 0} (p : Reader X) (f : X → Items) (S : X → Type 0) → IsSureOf p f S
    → (o : Option X) (ws : Items) (r : Option X × Items) → IsOptional S o
    → option_of p (option_items f o ++ ws) ≡ Some r → r ≡ (o, ws)
one_option p f S s None ws r h e =
    nothing_sure None ws r (at_number 2 0 (nothing None ∷ reads p Some ∷ []) [] ws r (omega arith) (omega arith) e)
one_option p f S s (Some x) ws r h e =
    value_sure s Some x (f x) ws r (Some x) h refl refl
    (at_number 2 1 (nothing None ∷ reads p Some ∷ []) (f x) ws r (omega arith) (omega arith) e)

pub option_sure : {X : Type 0} {p : Reader X} {f : X → Items} {S : X → Type 0} → IsSureOf p f S
    → IsSureOf (option_of p) (option_items f) (IsOptional S)
option_sure {X} {p} {f} {S} s = record { sure = one_option p f S s }

any_option : {X : Type 0} (o : Option X) → IsAny o → IsOptional (λ x. IsAny x) o
any_option None h = tt
any_option (Some x) h = tt

pub any_option_sure : {X : Type 0} {p : Reader X} {f : X → Items} → IsSureOf p f (λ x. IsAny x)
    → IsSureOf (option_of p) (option_items f) (λ o. IsAny o)
any_option_sure s = fewer_sure (option_sure s) any_option
