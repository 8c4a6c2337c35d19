-- Readers and what they read: a value is read of its items, and of nothing else.
use Rattle.std.proofs.Common.{◌≡◌, ℕ, zero, suc, ◌+◌, ◌<◌, ◌≤◌, ◌^◌, List, [], ◌∷◌, ◌++◌, length, Option, Some, None, refl, sym, ap, subst, ◌∙◌, append_assoc, arith, zero-add}
use Rattle.std.specs.List.{flat_map}
use Rattle.std.specs.Fmt.{decimal}
use Rattle.checkpoint_text.specs.Items.{Items, number_items, list_items, option_items, pair_items}
use Rattle.checkpoint_text.specs.Reading.{Reader, told, reads, nothing, then_read, both, chosen, choose, reader_at, number_to, times, list_of, option_of, variant}
use Rattle.checkpoint_text.specs.Writable.{AreAll, IsList, IsOptional}
use Rattle.checkpoint_text.proofs.NumberLemmas.{pair_same, below_is_read, below_is_written}

-- Such values are read of their items, and only these
pub record IsCodec {X : Type 0} (p : Reader X) (f : X → Items) (P : X → Type 0) : Type 0 where
  pub gives : (x : X) (ws : Items) → P x → p (f x ++ ws) ≡ Some (x, ws)
  pub tells : (x : X) (ws us : Items) → p ws ≡ Some (x, us) → (ws ≡ f x ++ us) × P x

-- What was read

pub was_told : {X Y : Type 0} (h : X → Y) (o : Option (X × Items)) (y : Y) (us : Items) → told h o ≡ Some (y, us)
    → (x : X) × (o ≡ Some (x, us)) × (h x ≡ y)
was_told h None y us e = absurd cc
was_told {X} h (Some r) y us e =
    let same = pair_same (h r.0) y r.1 us e in
    (r.0, ap {B = Option (X × Items)} (λ w. Some (r.0, w)) same.1, same.0)

pub was_chosen : {X Y : Type 0} (o : Option (X × Items)) (q : X → Reader Y) (y : Y) (us : Items) → chosen o q ≡ Some (y, us)
    → (x : X) × (vs : Items) × (o ≡ Some (x, vs)) × (q x vs ≡ Some (y, us))
was_chosen None q y us e = absurd cc
was_chosen (Some r) q y us e = (r.0, r.1, refl, e)

was_then : {X Y : Type 0} (o : Option (X × Items)) (q : Reader Y) (z : X × Y) (us : Items) → then_read o q ≡ Some (z, us)
    → (vs : Items) × (o ≡ Some (z.0, vs)) × (q vs ≡ Some (z.1, us))
was_then None q z us e = absurd cc
was_then {X} {Y} (Some r) q z us e =
    let t = was_told {X = Y} {Y = X × Y} (λ y. (r.0, y)) (q r.1) z us e in
    (r.1, ap {B = Option (X × Items)} (λ v. Some (v.0, r.1)) t.2, t.1 ∙ ap {B = Option (Y × Items)} (λ v. Some (v.1, us)) t.2)

-- Combinations

pub both_codec : {X Y : Type 0} (p : Reader X) (q : Reader Y) (f : X → Items) (g : Y → Items) (P : X → Type 0) (Q : Y → Type 0)
    → IsCodec p f P → IsCodec q g Q → IsCodec (both p q) (pair_items f g) (λ z. P z.0 × Q z.1)
both_codec {X} {Y} p q f g P Q c d = record {
  gives = λ z ws h. ap (both p q) (append_assoc (f z.0) (g z.1) ws)
      ∙ ap (λ (o : Option (X × Items)). then_read o q) (c.gives z.0 (g z.1 ++ ws) h.0)
      ∙ ap (told {X = Y} {Y = X × Y} (λ y. (z.0, y))) (d.gives z.1 ws h.1);
  tells = λ z ws us e.
      let t = was_then (p ws) q z us e in
      let first = c.tells z.0 ws t.0 t.1 in
      let second = d.tells z.1 t.0 us t.2 in
      (first.0 ∙ ap (λ (vs : Items). f z.0 ++ vs) second.0 ∙ sym (append_assoc (f z.0) (g z.1) us), (first.1, second.1));
}

pub then_codec : {X Y : Type 0} {p : Reader X} {q : Reader Y} {f : X → Items} {g : Y → Items} {P : X → Type 0} {Q : Y → Type 0}
    → IsCodec p f P → IsCodec q g Q → IsCodec (both p q) (pair_items f g) (λ z. P z.0 × Q z.1)
then_codec {p = p} {q = q} {f = f} {g = g} {P = P} {Q = Q} c d = both_codec p q f g P Q c d

-- the same values in another shape
pub reads_codec : {X Y : Type 0} (p : Reader X) (f : X → Items) (P : X → Type 0) (h : X → Y) (k : Y → X) (g : Y → Items) (Q : Y → Type 0)
    → IsCodec p f P → ((y : Y) → Q y → P (k y)) → ((y : Y) → Q y → h (k y) ≡ y) → ((x : X) → P x → Q (h x)) → ((x : X) → f x ≡ g (h x))
    → IsCodec (reads p h) g Q
reads_codec {X} {Y} p f P h k g Q c to back from same = record {
  gives = λ y ws q. ap (λ (z : Y). told h (p (g z ++ ws))) (sym (back y q)) ∙ ap (λ (items : Items). told h (p (items ++ ws))) (sym (same (k y)))
      ∙ ap (told h) (c.gives (k y) ws (to y q)) ∙ ap {B = Option (Y × Items)} (λ z. Some (z, ws)) (back y q);
  tells = λ y ws us e.
      let t = was_told h (p ws) y us e in
      let r = c.tells t.0 ws us t.1 in
      (r.0 ∙ ap (λ (items : Items). items ++ us) (same t.0) ∙ ap (λ (z : Y). g z ++ us) t.2, subst Q t.2 (from t.0 r.1));
}

-- Numbers

pub number_codec : (bound : ℕ) → bound ≤ 2 ^ 64 → IsCodec (number_to bound) number_items (λ n. n < bound)
number_codec bound small = record {
  gives = λ n ws h. below_is_read bound n ws small h;
  tells = λ n ws us e. below_is_written bound n ws us small e;
}

-- Lists

times_give : {X : Type 0} (p : Reader X) (f : X → Items) (P : X → Type 0) → IsCodec p f P → (xs : List X) (ws : Items) → AreAll P xs
    → times p (length xs) (flat_map f xs ++ ws) ≡ Some (xs, ws)
times_give p f P c [] ws h = refl
times_give {X} p f P c (x ∷ xs) ws h =
    let after : X → Items → Option (List X × Items) = λ y us. told (λ ys. y ∷ ys) (times p (length xs) us) in
    ap (λ (items : Items). chosen (p items) after) (append_assoc (f x) (flat_map f xs) ws)
    ∙ ap (λ (o : Option (X × Items)). chosen o after) (c.gives x (flat_map f xs ++ ws) h.0)
    ∙ ap (told (λ (ys : List X). x ∷ ys)) (times_give p f P c xs ws h.1)

times_tell : {X : Type 0} (p : Reader X) (f : X → Items) (P : X → Type 0) → IsCodec p f P → (k : ℕ) (xs : List X) (ws us : Items) → times p k ws ≡ Some (xs, us)
    → (length xs ≡ k) × (ws ≡ flat_map f xs ++ us) × AreAll P xs
times_tell {X} p f P c zero xs ws us e =
    let same = pair_same [] xs ws us e in
    (ap length (sym same.0), same.1 ∙ ap (λ (ys : List X). flat_map f ys ++ us) same.0, subst (AreAll P) same.0 tt)
times_tell {X} p f P c (suc k) xs ws us e =
    let t = was_chosen (p ws) (λ x vs. told (λ ys. x ∷ ys) (times p k vs)) xs us e in
    let r = was_told (λ (ys : List X). t.0 ∷ ys) (times p k t.1) xs us t.3 in
    let first = c.tells t.0 ws t.1 t.2 in
    let others = times_tell p f P c k r.0 t.1 us r.1 in (
      ap length (sym r.2) ∙ ap suc others.0,
      first.0 ∙ ap (λ (vs : Items). f t.0 ++ vs) others.1 ∙ sym (append_assoc (f t.0) (flat_map f r.0) us) ∙ ap (λ (ys : List X). flat_map f ys ++ us) r.2,
      subst (AreAll P) r.2 (first.1, others.2),
    )

pub list_codec : {X : Type 0} (p : Reader X) (f : X → Items) (P : X → Type 0) → IsCodec p f P → IsCodec (list_of p) (list_items f) (IsList P)
list_codec {X} p f P c = record {
  gives = λ xs ws h.
      ap (λ (o : Option (ℕ × Items)). chosen o (times p)) ((number_codec (2 ^ 64) (omega arith)).gives (length xs) (flat_map f xs ++ ws) h.0)
      ∙ times_give p f P c xs ws h.1;
  tells = λ xs ws us e.
      let t = was_chosen (number_to (2 ^ 64) ws) (times p) xs us e in
      let count = (number_codec (2 ^ 64) (omega arith)).tells t.0 ws t.1 t.2 in
      let others = times_tell p f P c t.0 xs t.1 us t.3 in (
        count.0 ∙ ap (λ (vs : Items). decimal t.0 ∷ vs) others.1 ∙ ap (λ (k : ℕ). decimal k ∷ (flat_map f xs ++ us)) (sym others.0),
        (subst (λ (k : ℕ). k < 2 ^ 64) (sym others.0) count.1, others.2),
      );
}

-- Variants

-- behind this number the reader reads such values, and only their items
abbrev pub IsVariant : {X : Type 0} → (X → Items) → (X → Type 0) → ℕ → Reader X → Type 0
IsVariant {X} f P k p = (x : X) (ws us : Items) → p ws ≡ Some (x, us) → (decimal k ∷ ws ≡ f x ++ us) × P x

abbrev pub AreVariants : {X : Type 0} → (X → Items) → (X → Type 0) → ℕ → List (Reader X) → Type 0
AreVariants f P k [] = Unit {0}
AreVariants f P k (p ∷ ps) = IsVariant f P k p × AreVariants f P (suc k) ps

variant_told : {X : Type 0} (f : X → Items) (P : X → Type 0) (k n m : ℕ) (ps : List (Reader X)) → m ≡ k + n → AreVariants f P k ps
    → (x : X) (ws us : Items) → reader_at ps n ws ≡ Some (x, us) → (decimal m ∷ ws ≡ f x ++ us) × P x
variant_told f P k n m [] is h x ws us e = absurd cc
variant_told f P k zero m (p ∷ ps) is h x ws us e =
    let r = h.0 x ws us e in
    let same : m ≡ k = omega arith in
    (ap (λ (j : ℕ). decimal j ∷ ws) same ∙ r.0, r.1)
variant_told f P k (suc n) m (p ∷ ps) is h x ws us e = variant_told f P (suc k) n m ps (omega arith) h.1 x ws us e

-- the reader at a number, below a bound
pub chosen_gives : {X : Type 0} (bound k : ℕ) (ps : List (Reader X)) (items ws : Items) (x : X) → bound ≤ 2 ^ 64 → k < bound
    → reader_at ps k (items ++ ws) ≡ Some (x, ws) → choose (number_to bound) (reader_at ps) ((decimal k ∷ items) ++ ws) ≡ Some (x, ws)
chosen_gives bound k ps items ws x small below e =
    ap (λ (o : Option (ℕ × Items)). chosen o (reader_at ps)) ((number_codec bound small).gives k (items ++ ws) below) ∙ e

pub chosen_tells : {X : Type 0} (bound : ℕ) (f : X → Items) (P : X → Type 0) (ps : List (Reader X)) → bound ≤ 2 ^ 64 → AreVariants f P 0 ps
    → (x : X) (ws us : Items) → choose (number_to bound) (reader_at ps) ws ≡ Some (x, us) → (ws ≡ f x ++ us) × P x
chosen_tells bound f P ps small h x ws us e =
    let t = was_chosen (number_to bound ws) (reader_at ps) x us e in
    let count = (number_codec bound small).tells t.0 ws t.1 t.2 in
    let r = variant_told f P 0 t.0 t.0 ps (sym (zero-add t.0)) h x t.1 us t.3 in
    (count.0 ∙ r.0, r.1)

pub variant_gives : {X : Type 0} (k : ℕ) (ps : List (Reader X)) (items ws : Items) (x : X) → k < 2 ^ 64
    → reader_at ps k (items ++ ws) ≡ Some (x, ws) → variant ps ((decimal k ∷ items) ++ ws) ≡ Some (x, ws)
variant_gives k ps items ws x below e = chosen_gives (2 ^ 64) k ps items ws x (omega arith) below e

pub variant_tells : {X : Type 0} (f : X → Items) (P : X → Type 0) (ps : List (Reader X)) → AreVariants f P 0 ps
    → (x : X) (ws us : Items) → variant ps ws ≡ Some (x, us) → (ws ≡ f x ++ us) × P x
variant_tells f P ps h x ws us e = chosen_tells (2 ^ 64) f P ps (omega arith) h x ws us e

-- a variant with nothing behind its number
pub nothing_tells : {X : Type 0} (f : X → Items) (P : X → Type 0) (k : ℕ) (y : X) → f y ≡ decimal k ∷ [] → P y → IsVariant f P k (nothing y)
nothing_tells {X} f P k y same h x ws us e =
    let parts = pair_same y x ws us e in
    (ap (λ (vs : Items). decimal k ∷ vs) parts.1 ∙ ap (λ (items : Items). items ++ us) (sym same) ∙ ap (λ (z : X). f z ++ us) parts.0, subst P parts.0 h)

-- a variant with a value behind it
pub reads_tells : {X Y : Type 0} (f : Y → Items) (Q : Y → Type 0) (k : ℕ) (p : Reader X) (g : X → Items) (P : X → Type 0) (h : X → Y)
    → IsCodec p g P → ((x : X) → f (h x) ≡ decimal k ∷ g x) → ((x : X) → P x → Q (h x)) → IsVariant f Q k (reads p h)
reads_tells {X} {Y} f Q k p g P h c same to y ws us e =
    let t = was_told h (p ws) y us e in
    let r = c.tells t.0 ws us t.1 in
    (ap (λ (vs : Items). decimal k ∷ vs) r.0 ∙ ap (λ (items : Items). items ++ us) (sym (same t.0)) ∙ ap (λ (z : Y). f z ++ us) t.2, subst Q t.2 (to t.0 r.1))

-- Options

abbrev none_or : {X : Type 0} → Reader X → List (Reader (Option X))
none_or p = nothing None ∷ reads p Some ∷ []

option_gives : {X : Type 0} (p : Reader X) (f : X → Items) (P : X → Type 0) → IsCodec p f P → (o : Option X) (ws : Items) → IsOptional P o → option_of p (option_items f o ++ ws) ≡ Some (o, ws)
option_gives p f P c None ws h = chosen_gives 2 0 (nothing None ∷ reads p Some ∷ []) [] ws None (omega arith) (omega arith) refl
option_gives {X} p f P c (Some x) ws h = chosen_gives 2 1 (nothing None ∷ reads p Some ∷ []) (f x) ws (Some x) (omega arith) (omega arith) (ap (told Some) (c.gives x ws h))

pub option_codec : {X : Type 0} (p : Reader X) (f : X → Items) (P : X → Type 0) → IsCodec p f P → IsCodec (option_of p) (option_items f) (IsOptional P)
option_codec {X} p f P c = record { gives = option_gives p f P c; tells = chosen_tells 2 (option_items f) (IsOptional P) (none_or p) (omega arith) (nothing_tells (option_items f) (IsOptional P) 0 None refl tt, (reads_tells (option_items f) (IsOptional P) 1 p f P Some c (λ x. refl) (λ x h. h), tt)) }
