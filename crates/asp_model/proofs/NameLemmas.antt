-- The loop that compares two names.
use Rattle.std.specs.Prelude.{◌≡◌, ℕ, [], ◌∷◌, ◌-◌, ◌<◌, ◌≤◌, length}
use Rattle.std.proofs.Common.{◌∙◌, arith, drop, length-drop}
use Rattle.std.proofs.Math.ListN.{drop_of_length-le}
use Rattle.std.specs.Cmp.{nat_cmp_is}
use Rattle.std.specs.Ordering.{nat_cmp}
use Rattle.std.specs.declared.cmp.Ordering.TheVariants.{Less, Equal, Greater}
use Rattle.asp_model.specs.Names.{Name, name_cmp}

-- what is left of two names, where nothing is left of one of them, is compared as their lengths are
left_first : (ws : Name) (a b : ℕ) → a ≤ b → length ws ≡ b - a → name_cmp [] ws ≡ nat_cmp a b
left_first [] a b le e = nat_cmp_is a b Equal (omega arith)
left_first (w ∷ ws) a b le e = nat_cmp_is a b Less (omega arith)

right_first : (zs : Name) (a b : ℕ) → b < a → length zs ≡ a - b → name_cmp zs [] ≡ nat_cmp a b
right_first [] a b lt e = absurd (omega (arith, e))
right_first (z ∷ zs) a b lt e = nat_cmp_is a b Greater lt

pub left_ended : (xs ys : Name) (i : ℕ) → i ≤ length xs → i ≤ length ys → length xs ≤ i → name_cmp (drop i xs) (drop i ys) ≡ nat_cmp (length xs) (length ys)
left_ended xs ys i le within ended =
    (λ j. name_cmp (drop_of_length-le xs ended j) (drop i ys))
    ∙ left_first (drop i ys) (length xs) (length ys) (omega arith) (length-drop i ys ∙ omega arith)

pub right_ended : (xs ys : Name) (i : ℕ) → i < length xs → i ≤ length ys → length ys ≤ i → name_cmp (drop i xs) (drop i ys) ≡ nat_cmp (length xs) (length ys)
right_ended xs ys i lt within ended =
    (λ j. name_cmp (drop i xs) (drop_of_length-le ys ended j))
    ∙ right_first (drop i xs) (length xs) (length ys) (omega arith) (length-drop i xs ∙ omega arith)
