-- Pieces of the lines that show a state.
use Rattle.std.specs.Prelude.{◌≡◌, ℕ, List, [], ◌∷◌, ◌++◌, Option, Some, None, length, map, take, codes, string_bytes}
use Rattle.std.specs.declared.alloc.Global.{Global}
use Rattle.std.specs.declared.string.String.{String}
use Rattle.std.specs.Fmt.{decimal}
use Rattle.std.specs.List.{flat_map}
use Rattle.asp_model.specs.Names.{Text}
use Rattle.asp_model.specs.Chase.{Values, chase}
use Rattle.asp_model.specs.Store.{CellShape}
use Rattle.code_table.specs.declared.class.Class.{Class}
use Rattle.code_table.specs.declared.code.MethodCode.{MethodCode}
use Rattle.code_table.specs.declared.code.Node.{Node}
use Rattle.code_table.specs.Classes.{class_at}
use Rattle.code_table.specs.Tables.{text_of}
use Rattle.code_table.specs.declared.cells.Object.{Object}
use Rattle.code_table.specs.Places.{placed}
use Rattle.def_paths.specs.Places.{name_by, told}

-- the text has these bytes more, at its end
abbrev pub AddsText : String Global → String Global → List ℕ → Type 0
AddsText old new piece = string_bytes new ≡ string_bytes old ++ piece

-- a further number of a name
abbrev pub dotted : ℕ → List ℕ
dotted n = 46 ∷ decimal n

abbrev pub labels_text : List Text → List ℕ
labels_text ls = flat_map (λ l. codes " " ++ l) ls

-- an object, by the labels of its fields and of its methods
abbrev pub object_text : List Text → List Text → List ℕ
object_text fields methods = codes "object" ++ labels_text fields ++ codes " ;" ++ labels_text methods

-- what shows of a cell, by these values of futures
abbrev pub shown_by : Values → CellShape → CellShape
shown_by values c = told (λ f. name_by (chase values f)) c

-- Objects

abbrev pub method_labels : List MethodCode → List Text
method_labels ms = map (λ m. m.label.text) ms

-- an object of a class, with so many places
abbrev pub text_of_class : Class → ℕ → List ℕ
text_of_class k places = object_text (map text_of (take places k.fields.items)) (method_labels k.methods.items)

-- an object whose class is no class of the code has neither fields nor methods
abbrev pub text_by_class : Option Class → ℕ → List ℕ
text_by_class None places = object_text [] []
text_by_class (Some k) places = text_of_class k places

abbrev pub text_of_object : List Node → Object → List ℕ
text_of_object code o = text_by_class (class_at code o.class) (length (placed o.places))
