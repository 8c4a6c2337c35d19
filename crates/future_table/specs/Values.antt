-- What contracts see of a table of futures, and of a chase.
use denote.Ref.{Bor}
use Rattle.std.specs.Prelude.{◌≡◌, List, [], ◌∷◌, Option, Some, None, map}
use Rattle.std.specs.FinMap.{put}
use Rattle.std.specs.declared.cmp.Ordering.{Ordering}
use Rattle.std.specs.List.{AllByRecursion}
use Rattle.std.specs.Arc.{arc_value}
use Rattle.code_table.specs.declared.code.Node.{Node}
use Rattle.asp_model.specs.declared.name.FutureName.{FutureName}
use Rattle.code_table.specs.declared.cells.Parcel.{Parcel}
use Rattle.asp_model.specs.Names.{FutureShape, future_cmp}
use Rattle.asp_model.specs.Chase.{Values}
use Rattle.asp_model.specs.Chase as chase
use Rattle.asp_model.specs.Shapes.{future_shape}
use Rattle.code_table.specs.Shapes.{parcel_shape}
use Rattle.future_table.specs.declared.chase.Chase.{Chase}
use Rattle.future_table.specs.declared.chase.Chase.TheVariants as chases

abbrev pub by_name : FutureName → FutureName → Ordering
by_name f g = future_cmp (future_shape f) (future_shape g)

-- those of these futures that have a value, with it, in ascending order of names
abbrev pub filled_of : List FutureName → List (Option Parcel) → List (FutureName × Parcel)
filled_of [] ps = []
filled_of (f ∷ fs) [] = []
filled_of (f ∷ fs) (None ∷ ps) = filled_of fs ps
filled_of (f ∷ fs) (Some p ∷ ps) = put by_name f p (filled_of fs ps)

abbrev pub values_of : List (FutureName × Parcel) → Values
values_of = map (λ e. (future_shape e.0, parcel_shape e.1))

-- entries whose values are lent
abbrev pub lent_entries : List (FutureName × Bor Parcel) → List (FutureName × Parcel)
lent_entries = map (λ e. (e.0, e.1.now))

abbrev pub lent_values : List (FutureName × Bor Parcel) → Values
lent_values es = values_of (lent_entries es)

-- a chase without the value that it comes to
pub data Told : Type 0 where
  Value : (f : FutureShape) → Told
  Unfilled : (f : FutureShape) → Told
  Cycle : (f : FutureShape) → Told

abbrev pub told : chase.Chase → Told
told (chase.Value f value) = Value f
told (chase.Unfilled f) = Unfilled f
told (chase.Cycle f) = Cycle f

abbrev pub chase_shape : Chase → Told
chase_shape (chases.Value f) = Value (future_shape f.now)
chase_shape (chases.Unfilled f) = Unfilled (future_shape f.now)
chase_shape (chases.Cycle f) = Cycle (future_shape f.now)

-- each value is of this code
abbrev pub AreOfCode : List Node → List (FutureName × Parcel) → Type 0
AreOfCode k = AllByRecursion (λ e. arc_value e.1.code ≡ k)

-- with one more value of a code they are of that code still
abbrev pub StayOfCode : Parcel → (old new : List (FutureName × Parcel)) → Type 0
StayOfCode p old new = (k : List Node) → arc_value p.code ≡ k → AreOfCode k old → AreOfCode k new
