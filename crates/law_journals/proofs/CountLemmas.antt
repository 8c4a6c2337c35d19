-- Different items of a list are no more than the list has; and how many pairs of different items there are.
use Rattle.std.specs.Prelude.{◌≡◌, ℕ, suc, ◌*◌, ◌-◌, ◌≤◌, Bool, true, false, List, [], ◌∷◌, ◌++◌, length, map}
use Rattle.std.specs.List.{flat_map}
use Rattle.std.proofs.Common.{refl, sym, ap, subst, ◌∙◌, arith, inl, inr, length-append}
use Rattle.std.proofs.Math.Nat.{suc-mul}
use Rattle.std.proofs.lemmas.List.{length-map}
use Rattle.law_steps.specs.Linked.{Each}
use Rattle.law_chases.proofs.FutureLemmas.{true_false}
use Rattle.law_steps.proofs.EntryLemmas.{In}

module _ {A : Type 0} (eq : A → A → Bool) (tied : (x y : A) → eq x y ≡ true → x ≡ y) (itself : (x : A) → eq x x ≡ true) where
  abbrev pub has : A → List A → Bool
  has x [] = false
  has x (y ∷ ys) = elim (eq x y) [ true ↦ true | false ↦ has x ys ]

  abbrev pub Different : List A → Type 0
  Different [] = Unit {0}
  Different (x ∷ xs) = (has x xs ≡ false) × Different xs

  abbrev pub removed : A → List A → List A
  removed x [] = []
  removed x (y ∷ ys) = elim (eq x y) [ true ↦ ys | false ↦ y ∷ removed x ys ]

  removed_shorter : (x : A) (ys : List A) → In x ys → suc (length (removed x ys)) ≡ length ys
  removed_shorter x [] i = absurd i
  removed_shorter x (y ∷ ys) i = by (eq x y) refl i (removed_shorter x ys)
    where
      by : (b : Bool) → eq x y ≡ b → In x (y ∷ ys) → (In x ys → suc (length (removed x ys)) ≡ length ys) → suc (length {A = A} (elim b [ true ↦ ys | false ↦ y ∷ removed x ys ])) ≡ suc (length ys)
      by true is j rest = refl
      by false is (inl p) rest = absurd (true_false (eq x x) (itself x) (ap (eq x) p ∙ is))
      by false is (inr j) rest = ap suc (rest j)

  removed_has : (x z : A) (ys : List A) → eq x z ≡ false → In z ys → In z (removed x ys)
  removed_has x z [] apart i = absurd i
  removed_has x z (y ∷ ys) apart i = by (eq x y) refl i (removed_has x z ys apart)
    where
      by : (b : Bool) → eq x y ≡ b → In z (y ∷ ys) → (In z ys → In z (removed x ys)) → In z (elim b [ true ↦ ys | false ↦ y ∷ removed x ys ])
      by true is (inl p) rest = absurd (true_false (eq x y) is (ap (eq x) (sym p) ∙ apart))
      by true is (inr j) rest = j
      by false is (inl p) rest = inl p
      by false is (inr j) rest = inr (rest j)

  others_in : (x : A) (xs ys : List A) → has x xs ≡ false → Each (λ z. In z ys) xs → Each (λ z. In z (removed x ys)) xs
  others_in x [] ys new h = tt
  others_in x (z ∷ xs) ys new h = by (eq x z) refl new (λ n. others_in x xs ys n h.1)
    where
      by : (b : Bool) → eq x z ≡ b → elim b [ true ↦ true | false ↦ has x xs ] ≡ false → (has x xs ≡ false → Each (λ u. In u (removed x ys)) xs) → Each (λ u. In u (removed x ys)) (z ∷ xs)
      by true is n rest = absurd (true_false true refl n)
      by false is n rest = (removed_has x z ys is h.0, rest n)

  pub no_more_than : (xs ys : List A) → Different xs → Each (λ z. In z ys) xs → length xs ≤ length ys
  no_more_than [] ys d h = omega arith
  no_more_than (x ∷ xs) ys d h = omega (arith, no_more_than xs (removed x ys) d.1 (others_in x xs ys d.0 h.1), removed_shorter x ys h.0)

-- Lists of lists

pub in_more : {A : Type 0} (x : A) (ys zs : List A) → In x ys → In x (ys ++ zs)
in_more x [] zs i = absurd i
in_more x (y ∷ ys) zs (inl p) = inl p
in_more x (y ∷ ys) zs (inr i) = inr (in_more x ys zs i)

pub in_later : {A : Type 0} (x : A) (ys zs : List A) → In x zs → In x (ys ++ zs)
in_later x [] zs i = i
in_later x (y ∷ ys) zs i = inr (in_later x ys zs i)

pub in_mapped : {A B : Type 0} (f : A → B) (x : A) (ys : List A) → In x ys → In (f x) (map f ys)
in_mapped f x [] i = absurd i
in_mapped f x (y ∷ ys) (inl p) = inl (ap f p)
in_mapped f x (y ∷ ys) (inr i) = inr (in_mapped f x ys i)

pub in_flat : {A B : Type 0} (f : A → List B) (x : A) (y : B) (ys : List A) → In x ys → In y (f x) → In y (flat_map f ys)
in_flat f x y [] i j = absurd i
in_flat f x y (z ∷ ys) (inl p) j = in_more y (f z) (flat_map f ys) (subst (λ u. In y (f u)) p j)
in_flat f x y (z ∷ ys) (inr i) j = in_later y (f z) (flat_map f ys) (in_flat f x y ys i j)

-- lists of at most k items each
pub flat_length : {A B : Type 0} (f : A → List B) (k : ℕ) (xs : List A) → Each (λ x. length (f x) ≤ k) xs → length (flat_map f xs) ≤ length xs * k
flat_length f k [] h = omega arith
flat_length f k (x ∷ xs) h = omega (arith, h.0, flat_length f k xs h.1, length-append (f x) (flat_map f xs), suc-mul (length xs) k)

-- Pairs of different items

module _ {A : Type 0} (eq : A → A → Bool) (itself : (x : A) → eq x x ≡ true) where
  abbrev pub others : A → List A → List A
  others x [] = []
  others x (y ∷ ys) = elim (eq x y) [ true ↦ others x ys | false ↦ y ∷ others x ys ]

  abbrev pub pairs : List A → List (A × A)
  pairs xs = flat_map (λ x. map (λ y. (x, y)) (others x xs)) xs

  no_longer : (x : A) (ys : List A) → length (others x ys) ≤ length ys
  no_longer x [] = omega arith
  no_longer x (y ∷ ys) = elim (eq x y) as (λ b. length {A = A} (elim b [ true ↦ others x ys | false ↦ y ∷ others x ys ]) ≤ suc (length ys)) [ true ↦ omega (arith, no_longer x ys) | false ↦ omega (arith, no_longer x ys) ]

  others_shorter : (x : A) (ys : List A) → In x ys → suc (length (others x ys)) ≤ length ys
  others_shorter x [] i = absurd i
  others_shorter x (y ∷ ys) i = by (eq x y) refl i (others_shorter x ys)
    where
      by : (b : Bool) → eq x y ≡ b → In x (y ∷ ys) → (In x ys → suc (length (others x ys)) ≤ length ys) → suc (length {A = A} (elim b [ true ↦ others x ys | false ↦ y ∷ others x ys ])) ≤ suc (length ys)
      by true is j rest = omega (arith, no_longer x ys)
      by false is (inl p) rest = absurd (true_false (eq x x) (itself x) (ap (eq x) p ∙ is))
      by false is (inr j) rest = omega (arith, rest j)

  pub in_others : (x z : A) (ys : List A) → eq x z ≡ false → In z ys → In z (others x ys)
  in_others x z [] apart i = absurd i
  in_others x z (y ∷ ys) apart i = by (eq x y) refl i (in_others x z ys apart)
    where
      by : (b : Bool) → eq x y ≡ b → In z (y ∷ ys) → (In z ys → In z (others x ys)) → In z (elim b [ true ↦ others x ys | false ↦ y ∷ others x ys ])
      by true is (inl p) rest = absurd (true_false (eq x y) is (ap (eq x) (sym p) ∙ apart))
      by true is (inr j) rest = rest j
      by false is (inl p) rest = inl p
      by false is (inr j) rest = inr (rest j)

  all_in : (xs : List A) → Each (λ x. In x xs) xs
  all_in [] = tt
  all_in (x ∷ xs) = (inl refl, later xs (all_in xs))
    where
      later : (ys : List A) → Each (λ y. In y xs) ys → Each (λ y. In y (x ∷ xs)) ys
      later [] h = tt
      later (y ∷ ys) h = (inr h.0, later ys h.1)

  few_others : (xs ys : List A) → Each (λ x. In x xs) ys → Each (λ x. length {A = A × A} (map (λ y. (x, y)) (others x xs)) ≤ length xs - 1) ys
  few_others xs [] h = tt
  few_others xs (y ∷ ys) h = (let e : length {A = A × A} (map (λ z. (y, z)) (others y xs)) ≡ length (others y xs) = length-map (others y xs) (λ z. (y, z)) in let s = others_shorter y xs h.0 in omega (arith, e, s), few_others xs ys h.1)

  pub pairs_length : (xs : List A) → length (pairs xs) ≤ length xs * (length xs - 1)
  pairs_length xs = flat_length (λ x. map (λ y. (x, y)) (others x xs)) (length xs - 1) xs (few_others xs xs (all_in xs))
