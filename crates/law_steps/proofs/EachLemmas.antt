-- Lists of which something holds at each element.
use Rattle.std.specs.Prelude.{ℕ, ◌<◌, ◌≤◌, List, [], ◌∷◌, ◌++◌, map}
use Rattle.std.proofs.Common.{arith}
use Rattle.law_steps.specs.Linked.{Each}
use Rattle.law_steps.specs.Closed.{AreBelow, CellsBelow}
use Rattle.asp_model.specs.Store.{CellShape, reached}

module _ {X : Type 0} (P : X → Type 0) where
  pub each_both : (xs ys : List X) → Each P xs → Each P ys → Each P (xs ++ ys)
  each_both [] ys h k = k
  each_both (x ∷ xs) ys h k = (h.0, each_both xs ys h.1 k)

  pub each_first : (xs ys : List X) → Each P (xs ++ ys) → Each P xs
  each_first [] ys h = tt
  each_first (x ∷ xs) ys h = (h.0, each_first xs ys h.1)

  pub each_second : (xs ys : List X) → Each P (xs ++ ys) → Each P ys
  each_second [] ys h = h
  each_second (x ∷ xs) ys h = each_second xs ys h.1

pub each_weaker : {X : Type 0} (P Q : X → Type 0) → ((x : X) → P x → Q x) → (xs : List X) → Each P xs → Each Q xs
each_weaker P Q to [] h = tt
each_weaker P Q to (x ∷ xs) h = (to x h.0, each_weaker P Q to xs h.1)

pub each_mapped : {X Y : Type 0} (P : X → Type 0) (Q : Y → Type 0) (f : X → Y) → ((x : X) → P x → Q (f x)) → (xs : List X) → Each P xs → Each Q (map f xs)
each_mapped P Q f to [] h = tt
each_mapped P Q f to (x ∷ xs) h = (to x h.0, each_mapped P Q f to xs h.1)

-- Bounds

pub below_more : (j k : ℕ) → j ≤ k → (ns : List ℕ) → AreBelow j ns → AreBelow k ns
below_more j k le = each_weaker (λ i. i < j) (λ i. i < k) (λ i h. omega (arith, h, le))

pub cells_more : (j k : ℕ) → j ≤ k → (cs : List CellShape) → CellsBelow j cs → CellsBelow k cs
cells_more j k le = each_weaker (λ c. AreBelow j (reached c)) (λ c. AreBelow k (reached c)) (λ c. below_more j k le (reached c))
