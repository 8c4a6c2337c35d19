-- What a table of futures keeps.
use Rattle.std.specs.Prelude.{◌≡◌, ◌≢◌, ℕ, List, Option, Some, None, length, map}
use Rattle.asp_model.specs.declared.name.FutureName.{FutureName}
use Rattle.code_table.specs.declared.cells.Parcel.{Parcel}
use Rattle.code_table.specs.Cells.{CodedCell, Future}
use Rattle.std.specs.FinMap.{find, put}
use Rattle.asp_model.specs.Names.{FutureShape}
use Rattle.asp_model.specs.Store.{cell}
use Rattle.asp_model.specs.Parcel.{ParcelShape}
use Rattle.asp_model.specs.Chase.{Values, Goes, lead_by}
use Rattle.asp_model.specs.Shapes.{future_shape}
use Rattle.future_table.specs.declared.walks.Walks.{Walks}
use Rattle.future_table.specs.Values.{by_name, filled_of, values_of}
use Rattle.future_table.specs.Numbers.{AreApart, number_of}
use Rattle.future_table.specs.Components.{AreComponents}

abbrev pub filled_in : Walks → List (FutureName × Parcel)
filled_in w = filled_of w.numbers w.values.items

abbrev pub values_in : Walks → Values
values_in w = values_of (filled_in w)

abbrev pub names_in : Walks → List FutureShape
names_in w = map future_shape w.numbers

pub record IsWhole (w : Walks) : Type 0 where
  pub parts : AreComponents (values_in w) (names_in w) w.links.items
  pub room : length w.values.items ≡ length w.numbers
  pub apart : AreApart w.numbers

-- the future that a cell is, whatever code its objects are of
abbrev pub future_in : CodedCell → Option FutureShape
future_in (Future f) = Some f
future_in c = None

-- the value's root is this future, or none
abbrev pub IsRoot : ParcelShape → Option FutureShape → Type 0
IsRoot p None = (g : FutureShape) → lead_by p (cell p.cells 0) ≢ Goes g
IsRoot p (Some g) = lead_by p (cell p.cells 0) ≡ Goes g

-- a future that has a number keeps it
abbrev pub NumbersStay : Walks → Walks → Type 0
NumbersStay old new = (f : FutureShape) (n : ℕ) → number_of f (names_in old) ≡ Some n → number_of f (names_in new) ≡ Some n

-- the value's root is the future of this number
abbrev pub IsGoing : ParcelShape → ℕ → List FutureShape → Type 0
IsGoing p next names = (g : FutureShape) × (lead_by p (cell p.cells 0) ≡ Goes g) × (number_of g names ≡ Some next)

-- the future of this number, which has no value
abbrev pub IsUnfilled : Walks → ℕ → FutureName → Type 0
IsUnfilled w at f = (number_of (future_shape f) (names_in w) ≡ Some at) × (find by_name f (filled_in w) ≡ None)

-- the future has got this value
abbrev pub IsFilledWith : Walks → Walks → FutureName → Parcel → Type 0
IsFilledWith old new f p = filled_in new ≡ put by_name f p (filled_in old)
