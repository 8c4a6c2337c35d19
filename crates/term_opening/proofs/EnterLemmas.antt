-- A place that is entered.
use Rattle.std.proofs.Common.{◌≡◌, ℕ, ◌==◌, ◌||◌, Bool, true, false, cond, nat_eq, List, [], ◌∷◌, ◌++◌, refl, ap, ◌∙◌}
use Rattle.std.specs.List.{list_any}
use Rattle.asp_model.specs.Parcel.{has_place}
use Rattle.term_opening.specs.Naming.{with_new}

has_any : (n : ℕ) (ks : List ℕ) → list_any (nat_eq n) ks ≡ has_place n ks
has_any n [] = refl
has_any n (k ∷ ks) = by (n == k) (has_any n ks)
  where
    by : (b : Bool) → list_any (nat_eq n) ks ≡ has_place n ks → (b || list_any (nat_eq n) ks) ≡ elim b [ true ↦ true | false ↦ has_place n ks ]
    by true e = refl
    by false e = e

either : (b : Bool) (n : ℕ) (ks : List ℕ) → cond b ks (ks ++ n ∷ []) ≡ elim b [ true ↦ ks | false ↦ ks ++ n ∷ [] ]
either true n ks = refl
either false n ks = refl

pub inserted : (n : ℕ) (ks : List ℕ) → cond (list_any (nat_eq n) ks) ks (ks ++ n ∷ []) ≡ with_new n ks
inserted n ks = ap (λ b. cond b ks (ks ++ n ∷ [])) (has_any n ks) ∙ either (has_place n ks) n ks
