-- Where one comes to who goes on from each to the next: to a last one, or round a circle.
use Rattle.std.specs.Prelude.{◌≡◌, ◌≢◌, ◌⊎◌, ℕ, zero, suc, Bool, true, false, List, [], ◌∷◌, ◌++◌, Option, Some, None}
use Rattle.law_steps.specs.Linked.{Each}

pub data Course (X : Type 0) : Type 0 where
  -- to one that has no next
  Stops : (last : X) → Course X
  -- from the first to each of the others, in order, and to the first again
  Circles : (first : X) (others : List X) → Course X

-- it is one of these
abbrev pub has_item : {X : Type 0} → (X → X → Bool) → X → List X → Bool
has_item same x [] = false
has_item same x (y ∷ ys) = elim (same x y) [ true ↦ true | false ↦ has_item same x ys ]

-- those that stand after it
abbrev pub items_after : {X : Type 0} → (X → X → Bool) → X → List X → List X
items_after same x [] = []
items_after same x (y ∷ ys) = elim (same x y) [ true ↦ ys | false ↦ items_after same x ys ]

-- from x on, with those that came before, oldest first; none where it takes more than n steps
abbrev pub course_from : {X : Type 0} → (X → X → Bool) → (X → Option X) → ℕ → List X → X → Option (Course X)
course_from same next zero before x = None
course_from same next (suc n) before x = elim (next x) [
  | None ↦ Some (Stops x)
  | Some y ↦ elim (has_item same y (before ++ x ∷ [])) [
    | true ↦ Some (Circles y (items_after same y (before ++ x ∷ [])))
    | false ↦ course_from same next n (before ++ x ∷ []) y
  ]
]

-- What a course says

-- each of x, these and z is followed by the next
abbrev pub GoesThrough : {X : Type 0} → (X → Option X) → X → List X → X → Type 0
GoesThrough next x [] z = next x ≡ Some z
GoesThrough next x (y ∷ ys) z = (next x ≡ Some y) × GoesThrough next y ys z

-- y is x, or comes after it
abbrev pub ComesTo : {X : Type 0} → (X → Option X) → X → X → Type 0
ComesTo {X} next x y = (x ≡ y) ⊎ ((zs : List X) × GoesThrough next x zs y)

-- the first is followed by the others, in order, and the last of them by the first, which is none of them
abbrev pub IsCircle : {X : Type 0} → (X → Option X) → X → List X → Type 0
IsCircle next first others = GoesThrough next first others first × Each (λ y. y ≢ first) others

-- the course of x
abbrev pub IsCourse : {X : Type 0} → (X → Option X) → X → Course X → Type 0
IsCourse next x (Stops last) = ComesTo next x last × (next last ≡ None)
IsCourse next x (Circles first others) = ComesTo next x first × IsCircle next first others
