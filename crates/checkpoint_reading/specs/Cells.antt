-- What definitions see of cells, parcels and requests that were read.
use Rattle.std.specs.Prelude.{ℕ, map}
use Rattle.asp_model.specs.declared.name.FutureName.{FutureName}
use Rattle.asp_model.specs.declared.term.Method.{Method}
use Rattle.asp_model.specs.declared.word.Label.{Label}
use Rattle.asp_model.specs.Configuration.{RequestShape}
use Rattle.asp_model.specs.Names.{FutureShape}
use Rattle.asp_model.specs.Parcel.{ParcelShape}
use Rattle.asp_model.specs.Shapes.{future_shape, tree_of}
use Rattle.asp_model.specs.Store.{CellShape, Field, MethodShape, Object, Reference, Future}
use Rattle.asp_model.specs.Store as cells
use Rattle.code_table.specs.Parts.{method_head}
use Rattle.checkpoint_text.specs.Reading.{Reader, both, field, list_of, method, reads}
use Rattle.checkpoint_reading.specs.declared.parts.CellText.{CellText}
use Rattle.checkpoint_reading.specs.declared.parts.CellText.TheVariants as text
use Rattle.checkpoint_reading.specs.declared.parts.ParcelText.{ParcelText}
use Rattle.checkpoint_reading.specs.declared.parts.RequestText.{RequestText}

-- an object behind the number of its kind
abbrev pub object : Reader CellShape
object = reads (both (list_of field) (list_of method)) (λ r. Object r.0 r.1)

abbrev pub place_field : Label × ℕ → Field
place_field f = record { label = f.0.text; place = f.1 }

abbrev pub method_shape : Method → MethodShape
method_shape m = record { head = method_head m; body = tree_of m.body }

abbrev pub cell_shape : CellText → CellShape
cell_shape (text.Number n) = cells.Number n
cell_shape (text.Object fields methods) = Object (map place_field fields.items) (map method_shape methods.items)
cell_shape (text.Reference n) = Reference n
cell_shape (text.Future f) = Future (future_shape f)
cell_shape (text.Group members) = cells.Group members.items

abbrev pub parcel_shape : ParcelText → ParcelShape
parcel_shape p = record { cells = map cell_shape p.cells.items; roots = p.roots.items }

abbrev pub request_shape : RequestText → RequestShape
request_shape r = record {
  label = r.label.text;
  sender = r.sender;
  future = future_shape r.future;
  arguments = parcel_shape r.arguments;
}

-- a future with its value
abbrev pub value_shape : FutureName × ParcelText → FutureShape × ParcelShape
value_shape v = (future_shape v.0, parcel_shape v.1)
