-- Numbers that are added to sets and lists.
use Rattle.std.proofs.Common.{◌≡◌, ◌≢◌, ◌||◌, ◌++◌, ◌∷◌, [], ℕ, Bool, true, false, cond, List, refl, sym, ap, ◌∙◌, ◌⊎◌, inl, inr}
use Rattle.std.proofs.lemmas.Cmp.{nat_cmp_total}
use Rattle.std.proofs.lemmas.List.Folds.{list_any-append}
use Rattle.std.specs.BTreeMap.{is_at}
use Rattle.std.specs.Cmp.{tied_itself}
use Rattle.std.specs.FinMap.{nat_cmp-IsAntisymmetric}
use Rattle.std.specs.Ordering.{is_eq, nat_cmp, ordering_reverse}
use Rattle.std.specs.declared.cmp.Ordering.{Ordering}
use Rattle.std.specs.declared.cmp.Ordering.TheVariants.{Less, Equal, Greater}
use Rattle.asp_model.specs.Order.{equal_order}
use Rattle.core_ranks.specs.Numbers.{Gains, Switches, has_number}

is_eq_round : (r : Ordering) → is_eq (ordering_reverse r) ≡ is_eq r
is_eq_round Less = refl
is_eq_round Equal = refl
is_eq_round Greater = refl

-- two numbers are one from either side
pub either_side : (k n : ℕ) → is_at (nat_cmp k) n ≡ is_at (nat_cmp n) k
either_side k n = ap is_eq (nat_cmp_total.antisymm k n) ∙ is_eq_round (nat_cmp n k)

pub number_case : (n k : ℕ) → (k ≡ n) ⊎ (is_at (nat_cmp n) k ≡ false)
number_case n k = elim (is_eq (nat_cmp n k)) as (λ b. is_eq (nat_cmp n k) ≡ b → (k ≡ n) ⊎ (b ≡ false)) [
  | true ↦ λ e. inl (sym (nat_cmp-IsAntisymmetric n k (equal_order (nat_cmp n k) e)))
  | false ↦ λ e. inr refl
] refl

pub number_itself : (n : ℕ) → is_at (nat_cmp n) n ≡ true
number_itself n = ap is_eq (tied_itself nat_cmp_total n)

pub numbers_apart : (k n : ℕ) → k ≢ n → is_at (nat_cmp k) n ≡ false
numbers_apart k n d = elim (number_case k n) [ inl e ↦ absurd (d (sym e)) | inr e ↦ e ]

-- the one of a number is in a set that it was added to, or that it was taken out of, and the others stay
pub switched_here : (b : Bool) (n : ℕ) (old new : List ℕ) → Switches b n old new → has_number n new ≡ b
switched_here b n old new h = h n ∙ ap (λ e. cond e b (has_number n old)) (number_itself n)

pub switched_elsewhere : (b : Bool) (n k : ℕ) (old new : List ℕ) → Switches b n old new → k ≢ n → has_number k new ≡ has_number k old
switched_elsewhere b n k old new h d = elim (number_case n k) [
  | inl e ↦ absurd (d e)
  | inr e ↦ h k ∙ ap (λ e. cond e b (has_number k old)) e
]

swap : (a b c : Bool) → (a || cond b true c) ≡ ((a || (b || false)) || c)
swap true b c = refl
swap false true c = refl
swap false false c = refl

-- a number goes from the end of a list into a set
pub moved_over : (k n : ℕ) (all left was now : List ℕ) → all ≡ left ++ n ∷ [] → Gains n was now → (has_number k left || has_number k now) ≡ (has_number k all || has_number k was)
moved_over k n all left was now e gains =
    ap (λ b. has_number k left || b) (gains k)
    ∙ ap (λ b. has_number k left || cond b true (has_number k was)) (sym (either_side k n))
    ∙ swap (has_number k left) (is_at (nat_cmp k) n) (has_number k was)
    ∙ ap (λ b. b || has_number k was) (sym (list_any-append (is_at (nat_cmp k)) left (n ∷ [])) ∙ sym (ap (has_number k) e))
