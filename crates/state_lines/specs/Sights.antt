-- What is read at a place.
use Rattle.std.specs.Prelude.{◌≡◌, Some}
use Rattle.asp_model.specs.Shapes.{future_shape}
use Rattle.asp_model.specs.Store.{CellShape, Number, Reference, Future, Group, cell}
use Rattle.code_table.specs.Classes.{class_at}
use Rattle.code_table.specs.declared.cells.Parcel.{Parcel}
use Rattle.code_table.specs.Shapes.{class_object, parcel_shape}
use Rattle.code_table.specs.Places.{placed}
use Rattle.def_paths.specs.Places.{Place, Side, entered, read}
use Rattle.state_lines.specs.declared.seen.Seen.{Seen}
use Rattle.state_lines.specs.declared.seen.Seen.TheVariants as seen
use Rattle.state_lines.specs.declared.sights.Sight.{Sight}
use Rattle.run_ends.specs.Reads.{seen_value}

abbrev pub seen_shape : Seen → CellShape
seen_shape (seen.Number n) = Number n
seen_shape (seen.Object o k) = class_object k.now (placed o.places) (class_at k.now o.class)
seen_shape (seen.Reference n) = Reference n.now
seen_shape (seen.Future f) = Future (future_shape f.now)
seen_shape (seen.Group ns) = Group (placed ns)

-- what is read at a place, and the value that is entered there
pub record Sees (a : Side) (p : Place) (s : Sight) : Type 0 where
  pub read : seen_shape s.seen ≡ read a p
  pub value : seen_value s.value ≡ entered a p

-- what is read where a value is entered
pub record IsRootOf (v : Parcel) (s : Sight) : Type 0 where
  pub read : seen_shape s.seen ≡ cell (parcel_shape v).cells 0
  pub value : seen_value s.value ≡ Some (parcel_shape v)
