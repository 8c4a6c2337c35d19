-- Lists that are the same up to a place.
use Rattle.std.specs.Prelude.{◌≡◌, ◌≢◌, Bool, true, false, not, nat_le, min, ℕ, zero, suc, ◌+◌, ◌<◌, ◌≤◌, List, [], ◌∷◌, ◌++◌, Some, None, length, map, slice_get, take}
use Rattle.std.specs.List.{take-map}
use Rattle.std.proofs.Common.{refl, sym, ap, ◌∙◌, get_or, arith}
use Rattle.std.proofs.lemmas.Bool.{leb-true, leb-false}
use Rattle.std.proofs.lemmas.List.{map-append, take_more}
use Rattle.law_chases.proofs.FutureLemmas.{no_some, some_is}

pub take_whole : {X : Type 0} (xs : List X) (n : ℕ) → n ≡ length xs → take n xs ≡ xs
take_whole [] zero e = refl
take_whole [] (suc n) e = refl
take_whole (x ∷ xs) zero e = absurd cc
take_whole (x ∷ xs) (suc n) e = ap (λ z. x ∷ z) (take_whole xs n (omega (arith, e)))

one_more : {X Y : Type 0} (f : X → Y) (xs : List X) (i : ℕ) (x : X) → x ≡ get_or xs i x → i < length xs → map f (take (i + 1) xs) ≡ map f (take i xs) ++ f x ∷ []
one_more f xs i x is below =
    ap (map f) (take_more xs i x below ∙ ap (λ w. take i xs ++ w ∷ []) (sym is))
    ∙ map-append f (take i xs) (x ∷ [])

-- one more is the same
pub same_more : {X Y : Type 0} (f : X → Y) (xs ys : List X) (i : ℕ) (x y : X) → x ≡ get_or xs i x → y ≡ get_or ys i y → i < length xs → i < length ys
    → f x ≡ f y → map f (take i xs) ≡ map f (take i ys) → map f (take (i + 1) xs) ≡ map f (take (i + 1) ys)
same_more f xs ys i x y ex ey hx hy same h = one_more f xs i x ex hx ∙ (λ j. h j ++ same j ∷ []) ∙ sym (one_more f ys i y ey hy)

-- all are
pub same_whole : {X Y : Type 0} (f : X → Y) (xs ys : List X) (n : ℕ) → n ≡ length xs → n ≡ length ys → map f (take n xs) ≡ map f (take n ys) → map f xs ≡ map f ys
same_whole f xs ys n ex ey h = ap (map f) (sym (take_whole xs n ex)) ∙ h ∙ ap (map f) (take_whole ys n ey)

-- What stands at a place of a list that is seen by a function

pub there : {X Y : Type 0} (f : X → Y) (xs : List X) (i : ℕ) (x : X) → x ≡ get_or xs i x → i < length xs → slice_get (map f xs) i ≡ Some (f x)
there f [] i x is below = absurd (no_less i below)
  where
    no_less : (i : ℕ) → i < 0 → ⊥
    no_less i h = search (arith, h)
there f (y ∷ xs) zero x is below = ap (λ z. Some (f z)) (sym is)
there f (y ∷ xs) (suc i) x is below = there f xs i x is (omega (arith, below))

no_length : (n : ℕ) → suc n ≤ 0 → ⊥
no_length n h = search (arith, h)

pub past : {X : Type 0} (xs : List X) (i : ℕ) → length xs ≤ i → slice_get xs i ≡ None
past [] i h = refl
past (x ∷ xs) zero h = absurd (no_length (length xs) h)
past (x ∷ xs) (suc i) h = past xs i (omega (arith, h))

-- the lines before a place are the same
pub same_before : {X Y : Type 0} (f : X → Y) (xs ys : List X) (i : ℕ) → map f (take i xs) ≡ map f (take i ys) → take i (map f xs) ≡ take i (map f ys)
same_before f xs ys i h = take-map f i xs ∙ h ∙ sym (take-map f i ys)

pub apart_at : {X Y : Type 0} (f : X → Y) (xs ys : List X) (i : ℕ) (x y : X) → x ≡ get_or xs i x → y ≡ get_or ys i y → i < length xs → i < length ys
    → (f x ≡ f y → ⊥) → slice_get (map f xs) i ≢ slice_get (map f ys) i
apart_at f xs ys i x y ex ey hx hy apart e = apart (some_is (sym (there f xs i x ex hx) ∙ e ∙ there f ys i y ey hy))

-- one side has ended
pub short_left : {X Y : Type 0} (f : X → Y) (xs ys : List X) (i : ℕ) → length xs ≤ i → i < length ys → slice_get (map f xs) i ≢ slice_get (map f ys) i
short_left f xs [] i hx hy e = no_less i hy
  where
    no_less : (i : ℕ) → i < 0 → ⊥
    no_less i h = search (arith, h)
short_left f [] (y ∷ ys) zero hx hy e = no_some e
short_left f [] (y ∷ ys) (suc i) hx hy e = short_left f [] ys i (omega arith) (omega (arith, hy)) e
short_left f (x ∷ xs) (y ∷ ys) zero hx hy e = no_length (length xs) hx
short_left f (x ∷ xs) (y ∷ ys) (suc i) hx hy e = short_left f xs ys i (omega (arith, hx)) (omega (arith, hy)) e

pub short_right : {X Y : Type 0} (f : X → Y) (xs ys : List X) (i : ℕ) → length ys ≤ i → i < length xs → slice_get (map f xs) i ≢ slice_get (map f ys) i
short_right f xs ys i hy hx e = short_left f ys xs i hy hx (sym e)

pub short_either : {X Y : Type 0} (f : X → Y) (xs ys : List X) (n : ℕ) → n ≡ min (length xs) (length ys) → length xs ≢ length ys → slice_get (map f xs) n ≢ slice_get (map f ys) n
short_either f xs ys n is apart = elim (nat_le (length ys) (length xs)) as (λ b. nat_le (length ys) (length xs) ≡ b → slice_get (map f xs) n ≢ slice_get (map f ys) n) [
  | true ↦ λ e. let le = leb-true (length ys) (length xs) e in short_right f xs ys n (omega (arith, is, le)) (omega (arith, is, le, apart))
  | false ↦ λ e. let lt = leb-false (length ys) (length xs) e in short_left f xs ys n (omega (arith, is, lt)) (omega (arith, is, lt))
] refl

pub map_same : {X : Type 0} (xs : List X) → map (λ (x : X). x) xs ≡ xs
map_same [] = refl
map_same (x ∷ xs) = ap (λ z. x ∷ z) (map_same xs)

pub true_by_not : (b : Bool) → not b ≡ false → b ≡ true
true_by_not true n = refl
true_by_not false n = sym n
