-- What is reached from an object, by its class: its fields' places, then for each method the captured places that its body uses, in text order.
use Rattle.std.specs.Prelude.{ℕ, List, [], ◌∷◌, ◌++◌, length, take, drop, slice_get}
use Rattle.std.specs.List.{flat_map}
use Rattle.std.specs.Option.{option_to_list}
use Rattle.asp_model.specs.Store.{CellShape}
use Rattle.code_table.specs.declared.code.Node.{Node}
use Rattle.code_table.specs.declared.class.Class.{Class}
use Rattle.code_table.specs.declared.code.MethodCode.{MethodCode}
use Rattle.code_table.specs.Classes.{class_at}
use Rattle.code_table.specs.declared.cells.Object.{Object}
use Rattle.code_table.specs.Places.{placed}
use Rattle.code_table.specs.Shapes.{class_object}

-- the places in these slots
abbrev pub used_places : List ℕ → List ℕ → List ℕ
used_places ns slots = flat_map (λ k. option_to_list (slice_get ns k)) slots

abbrev pub captured_places : List MethodCode → List ℕ → List ℕ
captured_places [] ns = []
captured_places (m ∷ ms) ns = used_places (take (length m.captured.items) ns) m.uses.items ++ captured_places ms (drop (length m.captured.items) ns)

abbrev pub class_places : Class → List ℕ → List ℕ
class_places k ns = take (length k.fields.items) ns ++ captured_places k.methods.items (drop (length k.fields.items) ns)

-- what an object stands for
abbrev pub object_shape : List Node → Object → CellShape
object_shape code o = class_object code (placed o.places) (class_at code o.class)
