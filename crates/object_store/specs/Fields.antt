-- Fields by their numbers.
use Rattle.std.specs.Prelude.{◌≡◌, ℕ, List, Some}
use Rattle.asp_model.specs.Names.{Text}
use Rattle.asp_model.specs.Store as store
use Rattle.asp_model.specs.Store.{MethodShape, Field, Store, cell, with_cell}
use Rattle.asp_model.specs.Contraction.{with_field}
use Rattle.code_table.specs.declared.code.Node.{Node}
use Rattle.code_table.specs.declared.class.Class.{Class}
use Rattle.code_table.specs.Classes.{class_at, field_number}
use Rattle.code_table.specs.Cells.{CodedStore, Object, cell_at, with_cell_at, with_place_at}
use Rattle.code_table.specs.Shapes.{store_of}

-- a place set at the number of a field is the field set
abbrev pub PlacesSetAreFieldsSet : Type 0
PlacesSetAreFieldsSet = (code : List Node) (s : CodedStore) (p i n : ℕ) (l : Text) (c : ℕ) (ns : List ℕ) (k : Class) (fields : List Field) (methods : List MethodShape)
    → cell_at s p ≡ Object c ns → class_at code c ≡ Some k → field_number l k ≡ Some i
    → cell (store_of code s) p ≡ store.Object fields methods
    → store_of code (with_cell_at s p (with_place_at i n (cell_at s p)))
    ≡ with_cell (store_of code s) p (store.Object (with_field l n fields) methods)
