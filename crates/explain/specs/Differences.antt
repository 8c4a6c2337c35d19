-- The first difference of two runs.
use Rattle.std.specs.Prelude.{◌≡◌, ◌≢◌, ℕ, ◌<◌, Bool, true, false, not, List, Option, Some, None, slice_get, take}
use Rattle.asp_model.specs.Names.{Name}
use Rattle.asp_model.specs.Configuration.{ReceptionShape}
use Rattle.asp_model.specs.Contraction.{LineShape}
use Rattle.asp_model.specs.Step.{ListsShape, reception_at, same_reception}
use Rattle.asp_model.specs.Replay.{AreCompatible, CountsShape, log_in}
use Rattle.explain.specs.declared.differences.first.Comparison.{Comparison}
use Rattle.explain.specs.declared.differences.first.Comparison.TheVariants as comparison
use Rattle.explain.specs.declared.differences.first.Difference.{Difference}
use Rattle.explain.specs.Orders.{EntryShape, entries_of, place_after}

-- something else stands there
abbrev pub is_other : ReceptionShape → Option ReceptionShape → Bool
is_other x None = false
is_other x (Some y) = not (same_reception x y)

-- the log of the other run has another entry at this place
abbrev pub differs : ListsShape → EntryShape → ℕ → Bool
differs others e k = is_other e.noted (reception_at (log_in others e.to) k)

-- the entry at an index, behind so many of its log
abbrev pub differs_at : ListsShape → List EntryShape → ℕ → EntryShape → Bool
differs_at others es i e = differs others e (place_after (take i es) e.to)

-- no entry before this index differs
abbrev pub AgreeBefore : ListsShape → List EntryShape → ℕ → Type 0
AgreeBefore others es i =
    (j : ℕ) (e : EntryShape) → j < i → slice_get es j ≡ Some e → differs_at others es j e ≡ false

-- this one does, at this place of its log
pub record IsDifference (others : ListsShape) (es : List EntryShape) (d : Difference) : Type 0 where
  pub entry : EntryShape
  pub there : slice_get es d.index ≡ Some entry
  pub place : d.place ≡ place_after (take d.index es) entry.to
  pub differs : differs_at others es d.index entry ≡ true
  pub first : AgreeBefore others es d.index

-- no entry differs
abbrev pub Agree : ListsShape → List EntryShape → Type 0
Agree others es = (j : ℕ) (e : EntryShape) → slice_get es j ≡ Some e → differs_at others es j e ≡ false

abbrev pub IsFirstDifference : ListsShape → List EntryShape → Option Difference → Type 0
IsFirstDifference others es None = Agree others es
IsFirstDifference others es (Some d) = IsDifference others es d

-- of two runs: the order of the entries of the one, and the logs and counts of both
abbrev pub Tells : List EntryShape → ListsShape → CountsShape → ListsShape → CountsShape → Comparison → Type 0
Tells es lists counts others other_counts comparison.Same = (lists ≡ others) × (counts ≡ other_counts)
Tells es lists counts others other_counts (comparison.Differs d) = IsDifference others es d
Tells es lists counts others other_counts comparison.Further = Agree others es

-- where the order has these logs, and no entry differs, of the two logs of each activity one begins with the other
abbrev pub AgreeingAreCompatible : Type 0
AgreeingAreCompatible = (es : List EntryShape) (lists others : ListsShape)
    → ((n : Name) → entries_of n es ≡ log_in lists n) → Agree others es → AreCompatible lists others

-- Lines

-- the lines before are the same, and these are not, or one side ends there
abbrev pub IsFirstOther : List LineShape → List LineShape → Option ℕ → Type 0
IsFirstOther xs ys None = xs ≡ ys
IsFirstOther xs ys (Some k) = (take k xs ≡ take k ys) × (slice_get xs k ≢ slice_get ys k)
