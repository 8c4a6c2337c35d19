-- Places in ascending order, with one more or without one, by the first of them.
use Rattle.std.proofs.Common.{◌≡◌, ℕ, ◌<◌, Bool, true, false, cond, nat_eq, nat_lt, List, ◌∷◌, Less, Equal, Greater, ap, arith}
use Rattle.std.specs.Ordering.{match_ordering, is_eq}
use Rattle.std.proofs.lemmas.Bool.Decides.{nat_tests}
use Rattle.object_store.specs.Places.{with_place, without_place}

abbrev placed : (less same : Bool) → ℕ → ℕ → List ℕ → List ℕ
placed less same x y ys = match_ordering (cond less Less (cond same Equal Greater)) (x ∷ y ∷ ys) (y ∷ ys) (y ∷ with_place x ys)

abbrev left : (less same : Bool) → ℕ → ℕ → List ℕ → List ℕ
left less same x y ys = cond (is_eq (cond less Less (cond same Equal Greater))) ys (y ∷ without_place x ys)

pub with_above : (x y : ℕ) (ys : List ℕ) → x < y → with_place x (y ∷ ys) ≡ x ∷ y ∷ ys
with_above x y ys lt = let l : nat_lt x y ≡ true = grind (arith, nat_tests) in ap (λ b. placed b (nat_eq x y) x y ys) l

pub with_below : (x y : ℕ) (ys : List ℕ) → y < x → with_place x (y ∷ ys) ≡ y ∷ with_place x ys
with_below x y ys lt =
    let l : nat_lt x y ≡ false = grind (arith, nat_tests) in
    let e : nat_eq x y ≡ false = grind (arith, nat_tests) in
    λ i. placed (l i) (e i) x y ys

pub with_first : (x y : ℕ) (ys : List ℕ) → x ≡ y → with_place x (y ∷ ys) ≡ y ∷ ys
with_first x y ys is =
    let l : nat_lt x y ≡ false = grind (arith, nat_tests) in
    let e : nat_eq x y ≡ true = grind (arith, nat_tests) in
    λ i. placed (l i) (e i) x y ys

pub without_first : (x y : ℕ) (ys : List ℕ) → x ≡ y → without_place x (y ∷ ys) ≡ ys
without_first x y ys is =
    let l : nat_lt x y ≡ false = grind (arith, nat_tests) in
    let e : nat_eq x y ≡ true = grind (arith, nat_tests) in
    λ i. left (l i) (e i) x y ys

pub without_below : (x y : ℕ) (ys : List ℕ) → y < x → without_place x (y ∷ ys) ≡ y ∷ without_place x ys
without_below x y ys lt =
    let l : nat_lt x y ≡ false = grind (arith, nat_tests) in
    let e : nat_eq x y ≡ false = grind (arith, nat_tests) in
    λ i. left (l i) (e i) x y ys
