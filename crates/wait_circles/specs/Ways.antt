-- Where ways lead: each goes from a number to its next.
use Rattle.std.specs.Prelude.{◌≡◌, ◌<◌, ℕ, List, Option, Some, None, length, slice_get}
use Rattle.law_waits.specs.Courses.{ComesTo, IsCircle}
use Rattle.wait_circles.specs.declared.ways.Circle.{Circle}
use Rattle.wait_circles.specs.declared.ways.End.{End}
use Rattle.wait_circles.specs.declared.ways.End.TheVariants.{Last, Round}

-- the next of a number, if it has one
abbrev pub next_in : List (Option ℕ) → ℕ → Option ℕ
next_in ns i = elim (slice_get ns i) [ None ↦ None | Some o ↦ o ]

-- each next is a number of the list
abbrev pub AreWithin : List (Option ℕ) → Type 0
AreWithin ns = (i j : ℕ) → next_in ns i ≡ Some j → j < length ns

-- the first is followed by the others, in order, and the last by the first, which is none of them
abbrev pub IsCircleOf : List (Option ℕ) → Circle → Type 0
IsCircleOf ns z = IsCircle (next_in ns) z.first z.others.items

abbrev pub AreCircles : List (Option ℕ) → List Circle → Type 0
AreCircles ns zs = (k : ℕ) (z : Circle) → slice_get zs k ≡ Some z → IsCircleOf ns z

-- the way from a number comes to one that has no next, or to the first of the circle with this number
abbrev pub IsEnd : List (Option ℕ) → List Circle → ℕ → End → Type 0
IsEnd ns zs i (Last j) = ComesTo (next_in ns) i j × (next_in ns j ≡ None)
IsEnd ns zs i (Round k) = (z : Circle) × (slice_get zs k ≡ Some z) × ComesTo (next_in ns) i z.first

-- each number has its end
abbrev pub AreEnds : List (Option ℕ) → List Circle → List End → Type 0
AreEnds ns zs es = (i : ℕ) → i < length ns → (e : End) × (slice_get es i ≡ Some e) × IsEnd ns zs i e
