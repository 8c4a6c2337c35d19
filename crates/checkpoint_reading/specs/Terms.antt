-- Terms and their parts, as their readers tell them.
use Rattle.std.specs.Prelude.{ℕ, ◌+◌}
use Rattle.std.specs.Global.{Box}
use Rattle.asp_model.specs.declared.term.Term.{Term}
use Rattle.asp_model.specs.declared.term.Method.{Method}
use Rattle.asp_model.specs.declared.word.Label.{Label}
use Rattle.asp_model.specs.Names.{Text}
use Rattle.asp_model.specs.Term.{MethodHead, Tree}
use Rattle.asp_model.specs.Shapes.{tree_of}
use Rattle.code_table.specs.Parts.{method_head}
use Rattle.checkpoint_text.specs.Reading.{Reader, term_to}

-- a term of so many levels more; of 200 levels each term of the definition is one
unfoldable pub level : ℕ → Reader Tree
level depth = term_to (depth + 24800)

abbrev pub two_shape : Box Term × Box Term → Tree × Tree
two_shape x = (tree_of x.0.value, tree_of x.1.value)

abbrev pub three_shape : Box Term × Label × Box Term → Tree × (Text × Tree)
three_shape x = (tree_of x.0.value, (x.1.text, tree_of x.2.value))

abbrev pub field_pair : Label × Term → Text × Tree
field_pair f = (f.0.text, tree_of f.1)

abbrev pub method_pair : Method → MethodHead × Tree
method_pair m = (method_head m, tree_of m.body)
