-- What the functions on terms that are being read see of them: no boxes, vectors or texts.
use Rattle.std.specs.Prelude.{List, map, reverse, Option, Some, None}
use Rattle.asp_model.specs.Term.{Head, MethodHead}
use Rattle.asp_model.specs.Term as term
use Rattle.asp_model.specs.Marked.{marked, one_marked}
use Rattle.asp_model.specs.Shapes.{marked_of, mark_shape, method_of, field_of, sign_shape}
use Rattle.syntax_terms.specs.declared.open.Part.{Part}
use Rattle.syntax_terms.specs.declared.open.Operator.{Operator}
use Rattle.syntax_terms.specs.declared.open.Access.{Access}
use Rattle.syntax_terms.specs.declared.open.Field.{Field}
use Rattle.syntax_terms.specs.declared.open.Target.{Target}
use Rattle.syntax_terms.specs.declared.open.Target.TheVariants as target
use Rattle.syntax_terms.specs.declared.open.Listing.{Listing}
use Rattle.syntax_terms.specs.declared.open.Object.{Object}
use Rattle.syntax_terms.specs.declared.open.Labels.{Labels}
use Rattle.syntax_terms.specs.declared.open.Head as declared_head
use Rattle.syntax_terms.specs.declared.open.Wrap.{Wrap}
use Rattle.syntax_terms.specs.declared.open.Wrap.TheVariants as wrap
use Rattle.syntax_terms.specs.declared.open.Kind.{Kind}
use Rattle.syntax_terms.specs.declared.open.Kind.TheVariants as kind
use Rattle.syntax_terms.specs.declared.open.Open.{Open}
use Rattle.syntax_grammar.specs.Nodes.{PartShape, part, got, ObjectShape, LabelsShape}
use Rattle.syntax_grammar.specs.States.{OperatorShape, TargetShape, KindShape, OpenShape, operator, listed}
use Rattle.syntax_grammar.specs.States as states

-- a term that was read, with where it begins
abbrev pub part_shape : Part → PartShape
part_shape p = record { start = p.start; term = marked_of p.term.value }

-- an operator with its left side
abbrev pub operator_shape : Operator → OperatorShape
operator_shape p = operator (sign_shape p.sign) (part_shape p.left)

-- the operator that waits for its right side, if one does
abbrev pub waiting_shape : Option Operator → Option OperatorShape
waiting_shape None = None
waiting_shape (Some p) = Some (operator_shape p)

abbrev pub access_shape : Access → PartShape
access_shape a = part a.start (marked (term.Get a.label.text) (mark_shape a.mark) (one_marked (marked_of a.receiver.value)))

-- the term that a field access is
abbrev pub field_part : Field → PartShape
field_part f = got (part_shape f.receiver) f.at f.label.text

abbrev pub target_shape : Target → TargetShape
target_shape (target.Call f) = states.OfCall (part_shape f.receiver) f.at f.label.text
target_shape (target.Group at) = states.OfGroup at

-- the call or the group that a list of terms makes
abbrev pub listing_part : Listing → PartShape
listing_part x = listed (target_shape x.target) (map marked_of x.terms.items)

abbrev pub object_shape : Object → ObjectShape
object_shape x = record { at = x.at; names = x.names.items; fields = map field_of x.fields.items; methods = map method_of x.methods.items }

abbrev pub labels_shape : Labels → LabelsShape
labels_shape x = record { at = x.at; polls = x.polls; names = x.names.items; labels = map (λ l. l.text) x.labels.items }

abbrev pub head_shape : declared_head.Head → MethodHead
head_shape h = record { label = h.label.text; slf = h.slf; parameters = h.parameters.items }

abbrev pub wrap_shape : Wrap → Head
wrap_shape wrap.Clone = term.Clone
wrap_shape wrap.Repeat = term.Repeat
wrap_shape wrap.Print = term.Print
wrap_shape wrap.Size = term.Size
wrap_shape wrap.WaitAll = term.WaitAll

abbrev pub kind_shape : Kind → KindShape
kind_shape kind.Top = states.Top
kind_shape (kind.InParentheses at) = states.InParentheses at
kind_shape (kind.InWord w at) = states.InWord (wrap_shape w) at
kind_shape (kind.InActive at) = states.InActive at
kind_shape (kind.InCondition at) = states.InCondition at
kind_shape (kind.InThen at c) = states.InThen at (marked_of c.value)
kind_shape (kind.InElse c) = states.InElse c.at (marked_of c.condition.value) (marked_of c.chosen.value)
kind_shape (kind.InList x) = states.InList (target_shape x.target) (map marked_of x.terms.items)
kind_shape (kind.InScatter at) = states.InScatter at
kind_shape (kind.InArguments x) = states.InArguments x.at (marked_of x.group.value) x.label_at x.label.text
kind_shape (kind.InMember at) = states.InMember at
kind_shape (kind.InIndex at t) = states.InIndex at (marked_of t.value)
kind_shape (kind.InBinding at name_at x) = states.InBinding at name_at x
kind_shape (kind.InBody b) = states.InBody b.at b.name_at b.name (marked_of b.bound.value)
kind_shape (kind.InField x label) = states.InField (object_shape x) label.text
kind_shape (kind.InMethod x h) = states.InMethod (object_shape x) (head_shape h)

abbrev pub put_stack : List Access → List PartShape
put_stack accesses = reverse (map access_shape accesses)

abbrev pub open_shape : Open → OpenShape
open_shape s = record {
  kind = kind_shape s.kind;
  start = s.start;
  before = map marked_of s.before.items;
  puts = put_stack s.puts.items;
  test = waiting_shape s.test;
  sum = waiting_shape s.sum;
  product = waiting_shape s.product;
}

-- innermost first
abbrev pub stack : List Open → List OpenShape
stack opens = reverse (map open_shape opens)
