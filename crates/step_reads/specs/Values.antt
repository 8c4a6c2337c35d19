-- What every value of a run is.
use Rattle.std.specs.Prelude.{◌≡◌, Some}
use Rattle.std.specs.FinMap.{find}
use Rattle.asp_model.specs.Names.{FutureShape, future_cmp}
use Rattle.asp_model.specs.Parcel.{ParcelShape}
use Rattle.asp_model.specs.Chase.{Values}
use Rattle.law_steps.specs.Closed.{IsClosedValue}

-- each value is a closed parcel whose one root is its first cell
abbrev pub AreClosedValues : Values → Type 0
AreClosedValues values = (f : FutureShape) (p : ParcelShape) → find future_cmp f values ≡ Some p → IsClosedValue p
