-- Ways up end: fewer links are higher after each step.
use Rattle.std.proofs.Common.{◌≡◌, ◌<◌, ◌≤◌, ℕ, zero, suc, Bool, true, false, cond, List, [], ◌∷◌, length, nat_lt, refl, arith}
use Rattle.std.proofs.lemmas.Bool.Decides.{nat_tests}
use Rattle.future_table.specs.declared.links.Link.{Link}
use Rattle.future_table.specs.Links.{link_at, higher}

not_higher : (h k : ℕ) → h ≤ k → (xs : List Link) → higher k xs ≤ higher h xs
not_higher h k le [] = omega arith
not_higher h k le (x ∷ xs) = by (nat_lt k x.height) refl (nat_lt h x.height) refl (not_higher h k le xs)
  where
    by : (a : Bool) → nat_lt k x.height ≡ a → (b : Bool) → nat_lt h x.height ≡ b → higher k xs ≤ higher h xs → cond a (suc (higher k xs)) (higher k xs) ≤ cond b (suc (higher h xs)) (higher h xs)
    by true d true e le' = omega (arith, le')
    by true d false e le' = absurd (grind (arith, nat_tests))
    by false d true e le' = omega (arith, le')
    by false d false e le' = le'

pub fewer_higher : (h : ℕ) (xs : List Link) (i : ℕ) → i < length xs → h < (link_at xs i).height → higher (link_at xs i).height xs < higher h xs
fewer_higher h [] i lt up = absurd (omega (arith, lt))
fewer_higher h (x ∷ xs) zero lt up = by (nat_lt x.height x.height) refl (nat_lt h x.height) refl (not_higher h x.height (omega (arith, up)) xs)
  where
    by : (a : Bool) → nat_lt x.height x.height ≡ a → (b : Bool) → nat_lt h x.height ≡ b → higher x.height xs ≤ higher h xs → cond a (suc (higher x.height xs)) (higher x.height xs) < cond b (suc (higher h xs)) (higher h xs)
    by true d b e le = absurd (grind (arith, nat_tests))
    by false d true e le = omega (arith, le)
    by false d false e le = absurd (grind (arith, nat_tests, up))
fewer_higher h (x ∷ xs) (suc i) lt up = by (nat_lt (link_at xs i).height x.height) refl (nat_lt h x.height) refl (fewer_higher h xs i (omega (arith, lt)) up)
  where
    by : (a : Bool) → nat_lt (link_at xs i).height x.height ≡ a → (b : Bool) → nat_lt h x.height ≡ b → higher (link_at xs i).height xs < higher h xs → cond a (suc (higher (link_at xs i).height xs)) (higher (link_at xs i).height xs) < cond b (suc (higher h xs)) (higher h xs)
    by true d true e less = omega (arith, less)
    by true d false e less = absurd (grind (arith, nat_tests, up))
    by false d true e less = omega (arith, less)
    by false d false e less = less
