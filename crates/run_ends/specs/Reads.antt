-- Where one reads, and the value that is entered there.
use Rattle.std.specs.Prelude.{◌≡◌, Option, Some, None}
use Rattle.std.specs.Borrow.{Bor}
use Rattle.asp_model.specs.Parcel.{ParcelShape}
use Rattle.code_table.specs.declared.cells.Parcel.{Parcel}
use Rattle.code_table.specs.Shapes.{parcel_shape}
use Rattle.def_paths.specs.Places.{Place, In_store, Side, inner, entered}
use Rattle.run_ends.specs.declared.entered.At.{At}
use Rattle.run_ends.specs.declared.entered.At.TheVariants as at

abbrev pub seen_value : Option (Bor Parcel) → Option ParcelShape
seen_value None = None
seen_value (Some v) = Some (parcel_shape v.now)

-- one reads at this place: at a cell of the store, or of the value that is entered at a place
abbrev pub IsAt : Side → At → Place → Type 0
IsAt a (at.Store i) p = p ≡ In_store i
IsAt a (at.Value v c) p = (q : Place) × (p ≡ inner q c) × (entered a q ≡ Some (parcel_shape v.now))
