-- The parts of terms, as trees and heads.
use Rattle.asp_model.specs.declared.word.Label.{Label}
use Rattle.asp_model.specs.declared.term.Term.{Term}
use Rattle.asp_model.specs.declared.term.Method.{Method}
use Rattle.asp_model.specs.Names.{Text}
use Rattle.asp_model.specs.Term.{MethodHead, Tree}
use Rattle.asp_model.specs.Shapes.{tree_of}

abbrev pub field_label : Label × Term → Text
field_label f = f.0.text

abbrev pub field_tree : Label × Term → Tree
field_tree f = tree_of f.1

abbrev pub method_head : Method → MethodHead
method_head m = record { label = m.label.text; slf = m.slf; parameters = m.parameters.items }

abbrev pub body_tree : Method → Tree
body_tree m = tree_of m.body
