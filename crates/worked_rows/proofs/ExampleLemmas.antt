-- Examples are read alike where a list of pairs of places matches.
use Prim.Native.String.{String}
use Rattle.std.specs.Prelude.{◌≡◌, ℕ, ◌&&◌, Bool, true, false, List, [], ◌∷◌, Option, Some, None, map, codes, bytes_eq}
use Rattle.std.proofs.Common.{refl, sym, ap, subst, ◌∙◌, inl, inr}
use Rattle.asp_model.specs.Store.{CellShape, Object}
use Rattle.law_steps.specs.Linked.{Each}
use Rattle.law_chases.proofs.FutureLemmas.{none_true, true_false, some_is}
use Rattle.law_steps.proofs.EntryLemmas.{In}
use Rattle.def_paths.specs.Places.{Place, In_store, Side, found, children, AreReadAlike}
use Rattle.def_paths.specs.Agree.{Pairs, no_pair, pair}
use Rattle.def_paths.specs.StateLines.{same_place, what_text}
use Rattle.law_paths.specs.Links.{Matching}
use Rattle.law_paths.proofs.PathLemmas.{matching_reads}
use Rattle.law_paths.proofs.StateLemmas.{place_tied, place_itself}

abbrev pub Both : Type 0
Both = Place × Place

abbrev pub has_both : Place → Place → List Both → Bool
has_both p q [] = false
has_both p q (x ∷ xs) = elim (same_place p x.0 && same_place q x.1) [ true ↦ true | false ↦ has_both p q xs ]

-- the items of two lists stand in the list of pairs
abbrev pub all_paired : List Both → List Place → List Place → Bool
all_paired R [] [] = true
all_paired R [] (q ∷ qs) = false
all_paired R (p ∷ ps) [] = false
all_paired R (p ∷ ps) (q ∷ qs) = has_both p q R && all_paired R ps qs

abbrev same_truth : Bool → Bool → Bool
same_truth true b = b
same_truth false true = false
same_truth false false = true

-- a pair shares its first place with this one exactly where it shares the second
abbrev pub shares_both : Both → List Both → Bool
shares_both x [] = true
shares_both x (y ∷ ys) = same_truth (same_place x.0 y.0) (same_place x.1 y.1) && shares_both x ys

abbrev pub partners_in : List Both → List Both → Bool
partners_in R [] = true
partners_in R (x ∷ xs) = shares_both x R && partners_in R xs

-- each place of a pair has one partner
abbrev pub are_partners : List Both → Bool
are_partners R = partners_in R R

abbrev pub Related : List Both → Place → Place → Type 0
Related R p q = In (p, q) R

both_true : (a b : Bool) → (a && b) ≡ true → (a ≡ true) × (b ≡ true)
both_true true b h = (refl, h)
both_true false b h = none_true h

has_related : (p q : Place) (R : List Both) → has_both p q R ≡ true → Related R p q
has_related p q [] h = none_true h
has_related p q (x ∷ xs) h = by_test (same_place p x.0 && same_place q x.1) refl h (has_related p q xs)
  where
    by_test : (b : Bool) → (same_place p x.0 && same_place q x.1) ≡ b → elim b [ true ↦ true | false ↦ has_both p q xs ] ≡ true → (has_both p q xs ≡ true → Related xs p q) → Related (x ∷ xs) p q
    by_test true is h to = let t = both_true (same_place p x.0) (same_place q x.1) is in inl (λ i. (place_tied p x.0 t.0 i, place_tied q x.1 t.1 i))
    by_test false is h to = inr (to h)

paired_related : (R : List Both) (ps qs : List Place) → all_paired R ps qs ≡ true → Pairs (Related R) ps qs
paired_related R [] [] h = no_pair
paired_related R [] (q ∷ qs) h = none_true h
paired_related R (p ∷ ps) [] h = none_true h
paired_related R (p ∷ ps) (q ∷ qs) h = let t = both_true (has_both p q R) (all_paired R ps qs) h in pair (has_related p q R t.0) (paired_related R ps qs t.1)

truths : (a b : Bool) → same_truth a b ≡ true → a ≡ b
truths true true h = refl
truths true false h = none_true h
truths false true h = none_true h
truths false false h = refl

shared_by : (x : Both) (ys : List Both) (y : Both) → shares_both x ys ≡ true → In y ys → same_place x.0 y.0 ≡ same_place x.1 y.1
shared_by x [] y h i = absurd i
shared_by x (z ∷ ys) y h (inl e) = let t = both_true (same_truth (same_place x.0 z.0) (same_place x.1 z.1)) (shares_both x ys) h in subst (λ u. same_place x.0 u.0 ≡ same_place x.1 u.1) (sym e) (truths (same_place x.0 z.0) (same_place x.1 z.1) t.0)
shared_by x (z ∷ ys) y h (inr i) = let t = both_true (same_truth (same_place x.0 z.0) (same_place x.1 z.1)) (shares_both x ys) h in shared_by x ys y t.1 i

partners_by : (R xs : List Both) (x y : Both) → partners_in R xs ≡ true → In x xs → In y R → same_place x.0 y.0 ≡ same_place x.1 y.1
partners_by R [] x y h i j = absurd i
partners_by R (z ∷ xs) x y h (inl e) j = let t = both_true (shares_both z R) (partners_in R xs) h in subst (λ u. same_place u.0 y.0 ≡ same_place u.1 y.1) (sym e) (shared_by z R y t.0 j)
partners_by R (z ∷ xs) x y h (inr i) j = let t = both_true (shares_both z R) (partners_in R xs) h in partners_by R xs x y t.1 i j

-- what each pair has to show
abbrev pub Shows : Side → Side → List Both → Both → Type 0
Shows a b R x = (found a x.0 ≡ found b x.1) × (all_paired R (children a x.0) (children b x.1) ≡ true)

each_in : (P : Both → Type 0) (xs : List Both) (x : Both) → Each P xs → In x xs → P x
each_in P [] x h i = absurd i
each_in P (y ∷ ys) x h (inl e) = subst P (sym e) h.0
each_in P (y ∷ ys) x h (inr i) = each_in P ys x h.1 i

matches : (a b : Side) (R : List Both) → Each (Shows a b R) R → are_partners R ≡ true → Matching a b (Related R)
matches a b R shows one = record {
  same = λ p q r. (each_in (Shows a b R) R (p, q) shows r).0;
  next = λ p q r. paired_related R (children a p) (children b q) (each_in (Shows a b R) R (p, q) shows r).1;
  once = λ p q r h k. place_tied q r (sym (partners_by R R (p, q) (p, r) one h k) ∙ place_itself p);
  back = λ p q r h k. place_tied p q (partners_by R R (p, r) (q, r) one h k ∙ place_itself r);
}

-- examples
pub alike : (a b : Side) (R : List Both) → Each (Shows a b R) R → are_partners R ≡ true → (xs ys : List ℕ) → all_paired R (map In_store xs) (map In_store ys) ≡ true → AreReadAlike a b xs ys
alike a b R shows one xs ys roots = matching_reads a b (Related R) (matches a b R shows one) xs ys (paired_related R (map In_store xs) (map In_store ys) roots)

-- Told apart

pub tells : {A : Type 0} (test : A → Bool) (x y : A) → test x ≡ true → test y ≡ false → x ≡ y → ⊥
tells test x y p q e = true_false (test x) p (ap test e ∙ q)

pub places_differ : (p q : Place) → same_place p q ≡ false → Some p ≡ Some q → ⊥
places_differ p q h e = true_false (same_place p p) (place_itself p) (ap (same_place p) (some_is e) ∙ h)

-- what is found shows this text
abbrev pub shows : String → Option CellShape → Bool
shows text None = false
shows text (Some c) = bytes_eq (what_text c) (codes text)

-- it is an object whose first method has this name of self
abbrev pub has_self : String → Option CellShape → Bool
has_self text (Some (Object fields (m ∷ ms))) = bytes_eq m.head.slf (codes text)
has_self text o = false
