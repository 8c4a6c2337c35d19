-- Where the nodes of a table stood in the text of the program.
use Rattle.std.specs.Prelude.{◌≡◌, List, [], ◌∷◌, ◌++◌, Some, map}
use Rattle.std.specs.List.{slice_get}
use Rattle.asp_model.specs.Marked.{Marked, MarkedList, marked, no_marked, and_marked}
use Rattle.code_table.specs.declared.code.Child.{Child}
use Rattle.code_table.specs.declared.code.Child.TheVariants as child
use Rattle.code_table.specs.declared.code.Kind.{Kind}
use Rattle.code_table.specs.declared.code.Kind.TheVariants as kind
use Rattle.code_table.specs.declared.code.MethodCode.{MethodCode}
use Rattle.code_table.specs.declared.code.Node.{Node}

-- the bodies of the methods of what a node makes
abbrev pub method_bodies : List MethodCode → List Child
method_bodies ms = map (λ m. m.body) ms

abbrev pub bodies_in : Kind → List Child
bodies_in (kind.Make k) = method_bodies k.value.methods.items
bodies_in k = []

-- the terms below a node, and then those bodies, as a term has them
abbrev pub all_below : Node → List Child
all_below n = n.children.items ++ bodies_in n.kind

abbrev mutual
  -- a node and all nodes below it have the bytes where those of this term stood; a variable has no node
  pub HasMarks : List Node → Child → Marked → Type 0
  HasMarks ns (child.Leaf l) t = Unit {0}
  HasMarks ns (child.Node i) (marked h m ts) = (n : Node) × (slice_get ns i ≡ Some n) × (n.mark ≡ m.at) × HaveMarks ns (all_below n) ts

  -- the same of several, term by term
  pub HaveMarks : List Node → List Child → MarkedList → Type 0
  HaveMarks ns [] no_marked = Unit {0}
  HaveMarks ns [] (and_marked t ts) = ⊥
  HaveMarks ns (c ∷ cs) no_marked = ⊥
  HaveMarks ns (c ∷ cs) (and_marked t ts) = HasMarks ns c t × HaveMarks ns cs ts
