-- Pairs in the parts of a text, at its first comma.
use Rattle.std.proofs.Common.{◌≡◌, ◌+◌, ◌-◌, ◌<◌, ◌≤◌, ◌∷◌, [], ℕ, suc, Bool, true, false, T, cond, List, Option, Some, None, is_some, length, refl, sym, ap, subst, ◌∙◌, arith}
use Rattle.std.specs.Prelude.{nat_le, if◌then◌else◌, not, MatchOption}
use Rattle.std.specs.Borrow.{Bor}
use Rattle.std.specs.List.{after_first, before_first, onto_first, position_or_len, slice_split}
use Rattle.std.proofs.lemmas.Bool.{le-leb}
use Rattle.std.proofs.lemmas.List.Splits.{length-slice_split, slice_split-cons_no, slice_split_first}
use Rattle.std.proofs.lemmas.Str.Pattern.{IsSplitOnceResult, split_once_first}
use Rattle.clap.specs.Walk.{Text}
use Rattle.update_policy.specs.declared.strategy.Strategy.{Strategy}
use Rattle.command_line.specs.Settings.{is_comma, joined, pair_in, pairs_behind, pairs_within}

no_some : {A C : Type 0} {x : A} → None ≡ Some x → C
no_some e = absurd (subst (λ o. T (not (is_some o))) e tt)

some_is : {A : Type 0} {x y : A} → Some x ≡ Some y → x ≡ y
some_is {A} {x} {y} e = ap (λ o. elim o [ None ↦ x | Some z ↦ z ]) e

-- Parts

whole : (p : ℕ → Bool) (t : List ℕ) → position_or_len p t ≡ length t → slice_split p t ≡ t ∷ []
whole p [] h = refl
whole p (x ∷ xs) h = by (p x) refl h (whole p xs)
  where
    by : (b : Bool) → p x ≡ b → cond (not b) (1 + position_or_len p xs) 0 ≡ suc (length xs) → (position_or_len p xs ≡ length xs → slice_split p xs ≡ xs ∷ []) → slice_split p (x ∷ xs) ≡ (x ∷ xs) ∷ []
    by true is e later = absurd (omega (arith, e))
    by false is e later = slice_split-cons_no p x xs is ∙ ap (onto_first x) (later (omega (arith, e)))

-- the parts of a text are it alone, or what stands before its first comma, and those of what stands behind
pub record PartsOf (t : List ℕ) (r : Option (Bor (List ℕ) × Bor (List ℕ))) : Type 0 where
  pub none : r ≡ None → slice_split is_comma t ≡ t ∷ []
  pub some : (x : Bor (List ℕ) × Bor (List ℕ)) → r ≡ Some x → slice_split is_comma t ≡ x.0.now ∷ slice_split is_comma x.1.now

pub parts_of : (t : List ℕ) (r : Option (Bor (List ℕ) × Bor (List ℕ))) → IsSplitOnceResult 44 t r → PartsOf t r
parts_of t r h = by r (split_once_first 44 t r h (omega arith))
  where
    by : (o : Option (Bor (List ℕ) × Bor (List ℕ))) → MatchOption o (position_or_len is_comma t ≡ length t) (λ x. (position_or_len is_comma t < length t) × (x.0.now ≡ before_first is_comma t) × (x.1.now ≡ after_first is_comma t)) → PartsOf t o
    by None k = record { none = λ _. whole is_comma t k; some = λ x e. no_some e }
    by (Some x) k = record {
      none = λ e. no_some (sym e);
      some = λ y e.
          let same : x ≡ y = some_is e in
          slice_split_first is_comma t 0 k.0
          ∙ (λ i. sym k.1 i ∷ slice_split is_comma (sym k.2 i))
          ∙ ap (λ z. z.0.now ∷ slice_split is_comma z.1.now) same;
    }

-- Pairs

abbrev Pairs : Type 0
Pairs = List (Text × Strategy)

joined_alone : (o : Option Pairs) → elim o [ None ↦ None | Some ys ↦ Some ys ] ≡ o
joined_alone None = refl
joined_alone (Some ys) = refl

pub one_part : (most : ℕ) (xs : Pairs) (t : Text) → 1 ≤ most → slice_split is_comma t ≡ t ∷ [] → pairs_within most xs (slice_split is_comma t) ≡ joined xs (pair_in t)
one_part most xs t some parts =
    ap (pairs_within most xs) parts
    ∙ ap (λ b. if b then pairs_behind xs (t ∷ []) else None) (le-leb 1 most some)
    ∙ joined_alone (joined xs (pair_in t))

abbrev then_pairs : Option Pairs → List Text → Option Pairs
then_pairs o parts = elim o [ None ↦ None | Some ys ↦ pairs_behind ys parts ]

fewer : (n most : ℕ) → 1 ≤ most → nat_le (suc n) most ≡ nat_le n (most - 1)
fewer n most some = by (nat_le (suc n) most) refl (nat_le n (most - 1)) refl
  where
    by : (a : Bool) → nat_le (suc n) most ≡ a → (b : Bool) → nat_le n (most - 1) ≡ b → nat_le (suc n) most ≡ nat_le n (most - 1)
    by true p true q = p ∙ sym q
    by false p false q = p ∙ sym q
    by true p false q = absurd (grind (arith, p, q, some))
    by false p true q = absurd (grind (arith, p, q, some))

abbrev no_pairs : Option Pairs
no_pairs = None

none_if : (b : Bool) → (if b then no_pairs else None) ≡ no_pairs
none_if true = refl
none_if false = refl

module _ (most : ℕ) (xs : Pairs) (t part rest : Text) (parts : slice_split is_comma t ≡ part ∷ slice_split is_comma rest) where
  abbrev others : List Text
  others = slice_split is_comma rest

  pub no_pair : joined xs (pair_in part) ≡ None → pairs_within most xs (slice_split is_comma t) ≡ None
  no_pair none =
      ap (pairs_within most xs) parts
      ∙ ap (λ o. if nat_le (suc (length others)) most then then_pairs o others else None) none
      ∙ none_if (nat_le (suc (length others)) most)

  pub more_pairs : (ys : Pairs) → 1 ≤ most → joined xs (pair_in part) ≡ Some ys → pairs_within most xs (slice_split is_comma t) ≡ pairs_within (most - 1) ys others
  more_pairs ys some first =
      ap (pairs_within most xs) parts
      ∙ ap (λ o. if nat_le (suc (length others)) most then then_pairs o others else None) first
      ∙ ap (λ b. if b then pairs_behind ys others else None) (fewer (length others) most some)

  pub too_many : most ≡ 1 → pairs_within most xs (slice_split is_comma t) ≡ None
  too_many one =
      ap (pairs_within most xs) parts
      ∙ ap (λ b. if b then pairs_behind xs (part ∷ others) else None) above
    where
      above : nat_le (suc (length (slice_split is_comma rest))) most ≡ false
      above = grind (arith, one, length-slice_split is_comma rest)
