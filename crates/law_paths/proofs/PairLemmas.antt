-- Lists whose items are related one by one.
use Rattle.std.specs.Prelude.{◌≡◌, ℕ, zero, suc, List, [], ◌∷◌, ◌++◌, Option, Some, None, length, map}
use Rattle.std.proofs.Common.{refl, sym, ap, subst}
use Rattle.law_steps.specs.Linked.{Each}
use Rattle.law_chases.proofs.FutureLemmas.{no_some, some_is}
use Rattle.def_paths.specs.Places.{Place, nth_place}
use Rattle.def_paths.specs.Agree.{Pairs, no_pair, pair}

module _ {A B : Type 0} (R : A → B → Type 0) where
  pub pairs_more : (xs : List A) (ys : List B) (us : List A) (vs : List B) → Pairs R xs ys → Pairs R us vs → Pairs R (xs ++ us) (ys ++ vs)
  pairs_more _ _ us vs no_pair qs = qs
  pairs_more _ _ us vs (pair r rs) qs = pair r (pairs_more _ _ us vs rs qs)

  pub pairs_weaker : (S : A → B → Type 0) → ((x : A) (y : B) → R x y → S x y) → (xs : List A) (ys : List B) → Pairs R xs ys → Pairs S xs ys
  pairs_weaker S to _ _ no_pair = no_pair
  pairs_weaker S to _ _ (pair r rs) = pair (to _ _ r) (pairs_weaker S to _ _ rs)

  pub pairs_back : (xs : List A) (ys : List B) → Pairs R xs ys → Pairs (λ y x. R x y) ys xs
  pairs_back _ _ no_pair = no_pair
  pairs_back _ _ (pair r rs) = pair r (pairs_back _ _ rs)

  pub pairs_length : (xs : List A) (ys : List B) → Pairs R xs ys → length xs ≡ length ys
  pairs_length _ _ no_pair = refl
  pairs_length _ _ (pair r rs) = ap suc (pairs_length _ _ rs)

  pub pairs_mapped : {C D : Type 0} (f : A → C) (g : B → D) (S : C → D → Type 0) → ((x : A) (y : B) → R x y → S (f x) (g y)) → (xs : List A) (ys : List B) → Pairs R xs ys → Pairs S (map f xs) (map g ys)
  pairs_mapped f g S to _ _ no_pair = no_pair
  pairs_mapped f g S to _ _ (pair r rs) = pair (to _ _ r) (pairs_mapped f g S to _ _ rs)

-- one list is mapped to the other
pub pairs_by : {A B C : Type 0} (R : B → C → Type 0) (f : A → B) (g : A → C) → ((x : A) → R (f x) (g x)) → (xs : List A) → Pairs R (map f xs) (map g xs)
pairs_by R f g to [] = no_pair
pairs_by R f g to (x ∷ xs) = pair (to x) (pairs_by R f g to xs)

pub pairs_each : {A B C : Type 0} (P : A → Type 0) (R : B → C → Type 0) (f : A → B) (g : A → C) → ((x : A) → P x → R (f x) (g x)) → (xs : List A) → Each P xs → Pairs R (map f xs) (map g xs)
pairs_each P R f g to [] h = no_pair
pairs_each P R f g to (x ∷ xs) h = pair (to x h.0) (pairs_each P R f g to xs h.1)

-- two relations one after the other
abbrev pub Then : {A B C : Type 0} → (A → B → Type 0) → (B → C → Type 0) → A → C → Type 0
Then {B = B} R S x z = (y : B) × R x y × S y z

pub pairs_then : {A B C : Type 0} (R : A → B → Type 0) (S : B → C → Type 0) (xs : List A) (ys : List B) (zs : List C) → Pairs R xs ys → Pairs S ys zs → Pairs (Then R S) xs zs
pairs_then R S _ _ _ no_pair no_pair = no_pair
pairs_then R S _ _ _ (pair {y = y} r rs) (pair t ts) = pair (y, r, t) (pairs_then R S _ _ _ rs ts)

-- Places at numbers in two lists

pub data Ends (R : Place → Place → Type 0) : Option Place → Option Place → Type 0 where
  nowhere : Ends R None None
  somewhere : {p q : Place} → R p q → Ends R (Some p) (Some q)

pub nth_pairs : (R : Place → Place → Type 0) (ps qs : List Place) → Pairs R ps qs → (n : ℕ) → Ends R (nth_place ps n) (nth_place qs n)
nth_pairs R _ _ no_pair n = nowhere
nth_pairs R _ _ (pair r rs) zero = somewhere r
nth_pairs R _ _ (pair r rs) (suc n) = nth_pairs R _ _ rs n

-- where the items at each number are related, the lists are
pub pairs_nth : (R : Place → Place → Type 0) (ps qs : List Place) → ((n : ℕ) → Ends R (nth_place ps n) (nth_place qs n)) → Pairs R ps qs
pairs_nth R [] [] to = no_pair
pairs_nth R [] (q ∷ qs) to = from _ _ (to 0) refl refl
  where
    from : (o o' : Option Place) → Ends R o o' → o ≡ None → o' ≡ Some q → Pairs R [] (q ∷ qs)
    from _ _ nowhere e d = no_some d
    from _ _ (somewhere r) e d = no_some (sym e)
pairs_nth R (p ∷ ps) [] to = from _ _ (to 0) refl refl
  where
    from : (o o' : Option Place) → Ends R o o' → o ≡ Some p → o' ≡ None → Pairs R (p ∷ ps) []
    from _ _ nowhere e d = no_some e
    from _ _ (somewhere r) e d = no_some (sym d)
pairs_nth R (p ∷ ps) (q ∷ qs) to = pair (from _ _ (to 0) refl refl) (pairs_nth R ps qs (λ n. to (suc n)))
  where
    from : (o o' : Option Place) → Ends R o o' → o ≡ Some p → o' ≡ Some q → R p q
    from _ _ nowhere e d = no_some e
    from _ _ (somewhere r) e d = subst (λ x. R x q) (some_is e) (subst (R _) (some_is d) r)
