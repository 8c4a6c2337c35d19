-- What chases find, that they look far enough, and how cycles are named.
use Rattle.std.specs.Prelude.{◌≡◌, ◌↔◌, ℕ, false, T, Some}
use Rattle.std.specs.FinMap.{find, is_sorted}
use Rattle.asp_model.specs.Names.{FutureShape, future_cmp}
use Rattle.asp_model.specs.Store.{cell}
use Rattle.asp_model.specs.Parcel.{ParcelShape}
use Rattle.asp_model.specs.Contraction.{is_future}
use Rattle.asp_model.specs.Chase.{Values, Chase, Value, Cycle, walk_end, chase}
use Rattle.law_chases.specs.Walks.{NeverEnds, IsCycleName}

-- it is that future's own value, and its root is no future
abbrev pub IsValueOf : Values → FutureShape → ParcelShape → Type 0
IsValueOf values f p = (find future_cmp f values ≡ Some p) × (is_future (cell p.cells 0) ≡ false)

-- a chase answers a filled future with its own value
abbrev pub ChasesFind : Type 0
ChasesFind = (values : Values) (f g : FutureShape) (p : ParcelShape)
    → chase values f ≡ Value g p → IsValueOf values g p

-- where a walk ends, in however many steps, the chase answers that end
abbrev pub ChasesEnd : Type 0
ChasesEnd = (values : Values) (n : ℕ) (f : FutureShape) (end : Chase)
    → T (is_sorted future_cmp values) → walk_end n values f ≡ Some end → chase values f ≡ end

-- a chase answers a cycle of a name exactly where no walk ends and that is the cycle's name
abbrev pub CyclesAreNamed : Type 0
CyclesAreNamed = (values : Values) (f name : FutureShape) → T (is_sorted future_cmp values)
    → (chase values f ≡ Cycle name) ↔ (NeverEnds values f × IsCycleName values f name)

-- where no walk ends the chase answers a cycle
abbrev pub CyclesAreTold : Type 0
CyclesAreTold = (values : Values) (f : FutureShape) → T (is_sorted future_cmp values)
    → NeverEnds values f → (name : FutureShape) × (chase values f ≡ Cycle name)
