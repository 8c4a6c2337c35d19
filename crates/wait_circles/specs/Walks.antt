-- What a walk leaves: for private functions alone.
use Rattle.std.specs.Prelude.{◌≡◌, ◌<◌, ℕ, suc, nat_eq, Bool, true, false, List, [], ◌∷◌}
use Rattle.std.specs.Prelude.{Option, Some, None, length, slice_get, get_or}
use Rattle.law_steps.specs.Linked.{Each}
use Rattle.law_waits.specs.Courses.{ComesTo, IsCircle, has_item, items_after}
use Rattle.wait_circles.specs.declared.ways.Circle.{Circle}
use Rattle.wait_circles.specs.declared.ways.End.{End}
use Rattle.wait_circles.specs.declared.ways.Found.{Found}
use Rattle.wait_circles.specs.declared.ways.Mark.{Mark}
use Rattle.wait_circles.specs.declared.ways.Mark.TheVariants.{Fresh, Passed, Ends}
use Rattle.wait_circles.specs.declared.walk.Step.{Step}
use Rattle.wait_circles.specs.declared.walk.Step.TheVariants as step
use Rattle.wait_circles.specs.declared.walk.Stop.{Stop}
use Rattle.wait_circles.specs.declared.walk.Stop.TheVariants as stop
use Rattle.wait_circles.specs.Ways.{next_in, AreCircles, IsEnd}

-- Marks

abbrev pub mark_at : List Mark → ℕ → Mark
mark_at ms k = get_or ms k Fresh

abbrev pub is_fresh : Mark → Bool
is_fresh Fresh = true
is_fresh Passed = false
is_fresh (Ends e) = false

abbrev pub is_passed : Mark → Bool
is_passed Fresh = false
is_passed Passed = true
is_passed (Ends e) = false

abbrev pub is_settled : Mark → Bool
is_settled Fresh = false
is_settled Passed = false
is_settled (Ends e) = true

-- how many are fresh
abbrev pub fresh_in : List Mark → ℕ
fresh_in [] = 0
fresh_in (m ∷ ms) = elim (is_fresh m) [ true ↦ suc (fresh_in ms) | false ↦ fresh_in ms ]

-- the ends that marks tell
abbrev pub AreTold : List Mark → List End → Type 0
AreTold ms es = (k : ℕ) (e : End) → mark_at ms k ≡ Ends e → slice_get es k ≡ Some e

abbrev pub AreSettled : List Mark → Type 0
AreSettled ms = (k : ℕ) → k < length ms → is_settled (mark_at ms k) ≡ true

-- A walk

abbrev pub has : ℕ → List ℕ → Bool
has = has_item nat_eq

-- those that a walk passed, and the marks before it and after
pub record IsWalked (ns : List (Option ℕ)) (old : List Mark) (path : List ℕ) (ms : List Mark) : Type 0 where
  pub within : Each (λ k. k < length ms) path
  pub passed : (k : ℕ) → is_passed (mark_at ms k) ≡ true → has k path ≡ true
  pub marked : Each (λ k. is_fresh (mark_at ms k) ≡ false) path
  pub ends : (k : ℕ) (e : End) → mark_at ms k ≡ Ends e → mark_at old k ≡ Ends e
  pub kept : (k : ℕ) (e : End) → mark_at old k ≡ Ends e → mark_at ms k ≡ Ends e

-- what comes after one
abbrev pub IsStep : List (Option ℕ) → List Mark → ℕ → Step → Type 0
IsStep ns ms i (step.On j) = (next_in ns i ≡ Some j) × (mark_at ms j ≡ Fresh)
IsStep ns ms i step.Last = next_in ns i ≡ None
IsStep ns ms i (step.Known j e) = (next_in ns i ≡ Some j) × (mark_at ms j ≡ Ends e)
IsStep ns ms i (step.Back j) = (next_in ns i ≡ Some j) × (mark_at ms j ≡ Passed)

-- where all of these lead
abbrev pub IsStop : List (Option ℕ) → List Mark → List ℕ → Stop → Type 0
IsStop ns ms path (stop.Last j) = Each (λ k. ComesTo (next_in ns) k j) path × (next_in ns j ≡ None)
IsStop ns ms path (stop.Known j e) = Each (λ k. ComesTo (next_in ns) k j) path × (mark_at ms j ≡ Ends e)
IsStop ns ms path (stop.Back j) =
    Each (λ k. ComesTo (next_in ns) k j) path × IsCircle (next_in ns) j (items_after nat_eq j path)

-- these have this end, and no other mark changes
abbrev pub IsSettledBy : End → List ℕ → List Mark → List Mark → Type 0
IsSettledBy e path old new = (k : ℕ) → mark_at new k ≡ elim (has k path) [ true ↦ Ends e | false ↦ mark_at old k ]

-- What is found

abbrev pub KeepsCircles : List Circle → List Circle → Type 0
KeepsCircles old new = (k : ℕ) (z : Circle) → slice_get old k ≡ Some z → slice_get new k ≡ Some z

abbrev pub AreEndsIn : List (Option ℕ) → List Circle → List Mark → Type 0
AreEndsIn ns zs ms = (k : ℕ) (e : End) → mark_at ms k ≡ Ends e → IsEnd ns zs k e

-- circles are added, and then this is the end of all of a path
pub record IsPathEnd (ns : List (Option ℕ)) (old new : List Circle) (path : List ℕ) (e : End) : Type 0 where
  pub keeps : KeepsCircles old new
  pub circles : AreCircles ns old → AreCircles ns new
  pub ends : Each (λ k. IsEnd ns new k e) path

-- circles and ends are so, no walk goes on, and those below a number are settled
pub record IsFound (ns : List (Option ℕ)) (f : Found) (below : ℕ) : Type 0 where
  pub size : length f.marks.items ≡ length ns
  pub circles : AreCircles ns f.circles.items
  pub ends : AreEndsIn ns f.circles.items f.marks.items
  pub rests : (k : ℕ) → is_passed (mark_at f.marks.items k) ≡ false
  pub settled : (k : ℕ) → k < below → is_settled (mark_at f.marks.items k) ≡ true
