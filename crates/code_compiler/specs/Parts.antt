-- The parts of terms as the code has them.
use Rattle.std.specs.Prelude.{Bool, true, false, List, [], ◌∷◌, ◌++◌, map}
use Rattle.asp_model.specs.declared.word.Label.{Label}
use Rattle.asp_model.specs.declared.term.Term.{Term}
use Rattle.asp_model.specs.declared.term.Method.{Method}
use Rattle.asp_model.specs.Names.{Text}
use Rattle.asp_model.specs.Term.{Head, Hole, Let, Loc, Make, Var, Tree, Trees, node, none, more, trees}
use Rattle.asp_model.specs.Marked.{Marked, MarkedList, MarkShape, marked, all_marked}
use Rattle.asp_model.specs.Shapes.{marked_of, tree_of}
use Rattle.code_compiler.specs.Closed.{AreClosed}
use Rattle.code_compiler.specs.Slots.{bound_in}
use Rattle.code_table.specs.Parts.{body_tree, field_label, field_tree, method_head}

-- what stands in a tree's node
abbrev pub head_at : Tree → Head
head_at (node h ts) = h

-- the node is no place, no hole and no variable, binds no name and makes no object
abbrev pub is_plain_head : Head → Bool
is_plain_head (Loc n) = false
is_plain_head Hole = false
is_plain_head (Var x) = false
is_plain_head (Make ls ms) = false
is_plain_head (Let x) = false
is_plain_head h = true

abbrev pub list_of : Trees → List Tree
list_of none = []
list_of (more t ts) = t ∷ list_of ts

-- the trees below its node
abbrev pub parts_of : Tree → List Tree
parts_of (node h ts) = list_of ts

abbrev pub terms_below : List Term → Trees
terms_below ts = trees (map tree_of ts)

abbrev pub fields_below : List (Label × Term) → Trees
fields_below fs = trees (map field_tree fs)

abbrev pub bodies_below : List Method → Trees
bodies_below ms = trees (map body_tree ms)

abbrev pub object_tree : List (Label × Term) → List Method → Tree
object_tree fs ms = node (Make (map field_label fs) (map method_head ms)) (trees (map field_tree fs ++ map body_tree ms))

-- methods whose bodies are closed under what is bound round their object
abbrev pub AreClosedMethods : List Text → List Method → Type 0
AreClosedMethods bound ms = AreClosed bound (map bound_in ms) (bodies_below ms)

-- Terms with their marks

abbrev pub mark_in : Marked → MarkShape
mark_in (marked h m ts) = m

abbrev pub marked_below : Marked → MarkedList
marked_below (marked h m ts) = ts

abbrev pub field_marked : Label × Term → Marked
field_marked f = marked_of f.1

abbrev pub body_marked : Method → Marked
body_marked m = marked_of m.body

abbrev pub terms_marked : List Term → MarkedList
terms_marked ts = all_marked (map marked_of ts)

abbrev pub fields_marked : List (Label × Term) → MarkedList
fields_marked fs = all_marked (map field_marked fs)

abbrev pub bodies_marked : List Method → MarkedList
bodies_marked ms = all_marked (map body_marked ms)
