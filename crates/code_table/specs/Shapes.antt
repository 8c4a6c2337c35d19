-- What cells and parcels stand for, by the code of their objects.
use Rattle.std.specs.Prelude.{ℕ, List, [], ◌∷◌, Option, Some, None, map}
use Rattle.std.specs.Arc.{arc_value}
use Rattle.asp_model.specs.Store as store
use Rattle.asp_model.specs.Store.{CellShape, Store}
use Rattle.asp_model.specs.Parcel.{ParcelShape}
use Rattle.code_table.specs.declared.code.Node.{Node}
use Rattle.code_table.specs.declared.class.Class.{Class}
use Rattle.code_table.specs.Tables.{pieces, object_of}
use Rattle.code_table.specs.Classes.{class_at}
use Rattle.code_table.specs.Answers.{AnswerView}
use Rattle.code_table.specs.Shown.{answer_items}
use Rattle.code_table.specs.declared.cells.View.{View}
use Rattle.code_table.specs.declared.cells.Parcel.{Parcel}
use Rattle.code_table.specs.Cells as coded
use Rattle.code_table.specs.Cells.{CodedCell, CodedStore}

-- an object whose class is no class of the code has neither fields nor methods
abbrev pub class_object : List Node → List ℕ → Option Class → CellShape
class_object code ns None = store.Object [] []
class_object code ns (Some k) = object_of (pieces code) k ns

abbrev pub cell_of : List Node → CodedCell → CellShape
cell_of code (coded.Number n) = store.Number n
cell_of code (coded.Object k ns) = class_object code ns (class_at code k)
cell_of code (coded.Reference n) = store.Reference n
cell_of code (coded.Future f) = store.Future f
cell_of code (coded.Group ns) = store.Group ns

abbrev pub store_of : List Node → CodedStore → Store
store_of code cs = map (cell_of code) cs

-- a cell as it is read
abbrev pub cell_shape : List Node → View → CellShape
cell_shape code v = cell_of code (coded.coded v)

-- a parcel by this code
abbrev pub parcel_in : List Node → Parcel → ParcelShape
parcel_in code p = record { cells = store_of code p.cells.items; roots = p.roots.items }

abbrev pub parcel_shape : Parcel → ParcelShape
parcel_shape p = parcel_in (arc_value p.code) p

-- a shown value as a parcel by this code, whose root is its first cell
abbrev pub answer_shape : List Node → AnswerView → ParcelShape
answer_shape code a = record { cells = store_of code (answer_items a); roots = 0 ∷ [] }
