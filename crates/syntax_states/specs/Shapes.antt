-- What the functions of the machine see of its states.
use Rattle.syntax_terms.specs.Shapes.{part_shape, target_shape, kind_shape, open_shape, stack, labels_shape, object_shape, head_shape}
use Rattle.asp_model.specs.Shapes.{marked_of}
use Rattle.syntax_grammar.specs.States.{OperandShape, OpenerShape, ModeShape, StateShape}
use Rattle.syntax_grammar.specs.States as states
use Rattle.syntax_states.specs.declared.state.Operand.{Operand}
use Rattle.syntax_states.specs.declared.state.Operand.TheVariants as operand
use Rattle.syntax_states.specs.declared.state.Opener.{Opener}
use Rattle.syntax_states.specs.declared.state.Opener.TheVariants as opener
use Rattle.syntax_states.specs.declared.state.Mode.{Mode}
use Rattle.syntax_states.specs.declared.state.Mode.TheVariants as mode
use Rattle.syntax_states.specs.declared.state.State.{State}

abbrev pub operand_shape : Operand → OperandShape
operand_shape (operand.Plain p) = states.Plain (part_shape p)
operand_shape (operand.Access f) = states.Access (part_shape f.receiver) f.at f.label.text

abbrev pub opener_shape : Opener → OpenerShape
opener_shape opener.ByRound = states.ByRound
opener_shape opener.ByBrace = states.ByBrace
opener_shape opener.ByEquals = states.ByEquals
opener_shape opener.ByComma = states.ByComma

abbrev pub mode_shape : Mode → ModeShape
mode_shape mode.Begin = states.Begin
mode_shape mode.Want = states.Want
mode_shape (mode.Have x) = states.Have (operand_shape x)
mode_shape (mode.Dotted p) = states.Dotted (part_shape p)
mode_shape (mode.ListBegun x) = states.ListBegun (target_shape x)
mode_shape (mode.Opening x k) = states.Opening (opener_shape x) (kind_shape k)
mode_shape (mode.LetNaming at) = states.LetNaming at
mode_shape (mode.ServiceNaming at t) = states.ServiceNaming at (marked_of t.value)
mode_shape (mode.ServiceNamed s) = states.ServiceNamed s.at (marked_of s.object.value) s.label_at s.label.text
mode_shape (mode.GroupOpening at) = states.GroupOpening at
mode_shape (mode.ScatterNaming at t) = states.ScatterNaming at (marked_of t.value)
mode_shape (mode.ServeOpening polls at) = states.ServeOpening polls at
mode_shape (mode.ServeBegun x) = states.ServeBegun (labels_shape x)
mode_shape (mode.LabelNaming x) = states.LabelNaming (labels_shape x)
mode_shape (mode.LabelNamed x) = states.LabelNamed (labels_shape x)
mode_shape (mode.ElseComing c) = states.ElseComing c.at (marked_of c.condition.value) (marked_of c.chosen.value)
mode_shape (mode.EchoOpening at) = states.EchoOpening at
mode_shape (mode.EchoText at) = states.EchoText at
mode_shape (mode.EchoClosing at text) = states.EchoClosing at text
mode_shape (mode.ObjectBegun x) = states.ObjectBegun (object_shape x)
mode_shape (mode.FieldNaming x) = states.FieldNaming (object_shape x)
mode_shape (mode.MethodNaming x) = states.MethodNaming (object_shape x)
mode_shape (mode.MethodNamed x label) = states.MethodNamed (object_shape x) label.text
mode_shape (mode.SelfNaming x label) = states.SelfNaming (object_shape x) label.text
mode_shape (mode.HeadNamed x h) = states.HeadNamed (object_shape x) (head_shape h)
mode_shape (mode.ParameterNaming x h) = states.ParameterNaming (object_shape x) (head_shape h)

abbrev pub state_shape : State → StateShape
state_shape s = states.At (mode_shape s.mode) (open_shape s.inner) (stack s.outer.items)
