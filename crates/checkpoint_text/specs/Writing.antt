-- What a text has more, once items are written behind it.
use Rattle.std.specs.Prelude.{◌≡◌, List, ◌++◌, codes, map, string_bytes}
use Rattle.std.specs.List.{flat_map}
use Rattle.std.specs.declared.alloc.Global.{Global}
use Rattle.std.specs.declared.string.String.{String}
use Rattle.asp_model.specs.declared.word.Label.{Label}
use Rattle.asp_model.specs.declared.term.Term.{Term}
use Rattle.asp_model.specs.declared.term.Method.{Method}
use Rattle.asp_model.specs.Names.{Text}
use Rattle.asp_model.specs.Shapes.{tree_of}
use Rattle.asp_model.specs.Term.{Make, node, trees}
use Rattle.code_table.specs.Parts.{body_tree, field_label, field_tree, method_head}
use Rattle.checkpoint_text.specs.Items.{Items, items_below, list_items, method_items, term_items, text_items}

-- items, each behind a space
abbrev pub words : Items → Text
words = flat_map (λ i. codes " " ++ i)

-- the text has these items more, at its end
abbrev pub Adds : String Global → Items → String Global → Type 0
Adds old items new = string_bytes new ≡ string_bytes old ++ words items

-- a term's items
abbrev pub tree_items : Term → Items
tree_items t = term_items (tree_of t)

-- those of several terms
abbrev pub below_items : List Term → List Items
below_items ts = items_below (trees (map tree_of ts))

-- a field's items, and a method's
abbrev pub field_piece : Label × Term → Items
field_piece f = text_items f.0.text ++ tree_items f.1

abbrev pub head_piece : Method → Items
head_piece m = text_items m.label.text ++ text_items m.slf ++ list_items text_items m.parameters.items

abbrev pub method_piece : Method → Items
method_piece m = method_items (method_head m) (tree_items m.body)

-- an object's items, as a term
abbrev pub object_items : List (Label × Term) → List Method → Items
object_items fs ms =
    term_items (node (Make (map field_label fs) (map method_head ms)) (trees (map field_tree fs ++ map body_tree ms)))
