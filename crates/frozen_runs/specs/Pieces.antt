-- The items of the parts of cells.
use denote.Ref.{Bor}
use Rattle.std.specs.Prelude.{ℕ, suc, ◌∷◌, ◌++◌, length}
use Rattle.std.specs.Fmt.{decimal}
use Rattle.std.specs.List.{flat_map}
use Rattle.std.specs.Option.{option_map}
use Rattle.asp_model.specs.declared.name.FutureName.{FutureName}
use Rattle.asp_model.specs.declared.word.Label.{Label}
use Rattle.asp_model.specs.Names.{Name}
use Rattle.asp_model.specs.Shapes.{future_shape}
use Rattle.asp_model.specs.Store.{MethodShape}
use Rattle.code_table.specs.declared.cells.Parcel.{Parcel}
use Rattle.code_table.specs.declared.code.MethodCode.{MethodCode}
use Rattle.code_table.specs.Shapes.{parcel_shape}
use Rattle.code_reading.specs.declared.shown.Suspended.{Suspended}
use Rattle.checkpoint_text.specs.Items.{Items, future_items, list_items, method_items, name_items, number_items}
use Rattle.checkpoint_text.specs.Items.{option_items, parcel_items, term_items, text_items}
use Rattle.checkpoint_text.specs.Writing.{tree_items}

-- a field's label and its place
abbrev pub place_piece : Label → ℕ → Items
place_piece l n = text_items l.text ++ number_items n

-- a method's items
abbrev pub method_shape_items : MethodShape → Items
method_shape_items m = method_items m.head (term_items m.body)

-- those of its label, of the name of self and of its parameters
abbrev pub head_items : MethodCode → Items
head_items m = text_items m.label.text ++ text_items m.slf ++ list_items text_items m.parameters.items

-- those of a suspended term, whose `serve` is a hole, and of the future that it had to answer
abbrev pub suspended_items : Suspended → Items
suspended_items s =
    decimal (suc (length s.contexts.items)) ∷ decimal 1 ∷ flat_map tree_items s.contexts.items
    ++ option_items future_items (option_map future_shape s.future)

-- a future with its home
abbrev pub home_items : FutureName × Name → Items
home_items h = future_items (future_shape h.0) ++ name_items h.1

-- a future with its value, which is lent
abbrev pub value_items : FutureName × Bor Parcel → Items
value_items v = future_items (future_shape v.0) ++ parcel_items (parcel_shape v.1.now)
