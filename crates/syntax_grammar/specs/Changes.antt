-- What a token makes of a mode in which no operand was read.
use Rattle.std.specs.Prelude.{ℕ, Bool, true, false, List, [], ◌∷◌, Option, Some, None}
use Rattle.asp_model.specs.Names.{Text}
use Rattle.asp_model.specs.Term.{MethodHead}
use Rattle.asp_model.specs.Term as term
use Rattle.asp_model.specs.Marked.{Marked}
use Rattle.syntax_tokens.specs.declared.token.Token.{Token}
use Rattle.syntax_tokens.specs.declared.token.Token.TheVariants as tokens
use Rattle.syntax_grammar.specs.Nodes.{PartShape, part, number_at, variable_at, echo_at, active_at, let_at, ObjectShape, made, LabelsShape, served, with_parameter}
use Rattle.syntax_grammar.specs.States.{KindShape, InParentheses, InWord, InActive, InCondition, InElse, OfCall, OfGroup, InScatter, InArguments, InMember, InBinding, InField, InMethod, OpenShape, OperandShape, Plain, Access, OpenerShape, ByRound, ByBrace, ByEquals, ByComma, ModeShape, Have, ListBegun, Opening, LetNaming, ServiceNamed, GroupOpening, ServeOpening, ServeBegun, LabelNaming, LabelNamed, EchoOpening, EchoText, EchoClosing, ObjectBegun, MethodNaming, MethodNamed, SelfNaming, HeadNamed, ParameterNaming, StateShape, At, new_object, with_name, new_labels, with_label}
use Rattle.syntax_grammar.specs.Closings.{opened}

-- what a token makes of a mode, where what is open stays or gets one more
pub data ChangeShape : Type 0 where
  Goes : (mode : ModeShape) → ChangeShape
  Opens : (kind : KindShape) → ChangeShape

abbrev pub changed : Option ChangeShape → OpenShape → List OpenShape → Option StateShape
changed None s outer = None
changed (Some (Goes mode)) s outer = Some (At mode s outer)
changed (Some (Opens kind)) s outer = opened kind s outer

-- the bracket of a call stands behind a field access alone
abbrev pub call_begun : OperandShape → Option ChangeShape
call_begun (Plain p) = None
call_begun (Access receiver at label) = Some (Goes (ListBegun (OfCall receiver at label)))

-- a token that begins an operand
abbrev pub operand : Token → ℕ → Option ChangeShape
operand (tokens.Number n) at = Some (Goes (Have (Plain (part at (number_at at n)))))
operand (tokens.Name x) at = Some (Goes (Have (Plain (part at (variable_at at x)))))
operand tokens.Open at = Some (Opens (InParentheses at))
operand tokens.SquareOpen at = Some (Goes (ObjectBegun (new_object at)))
operand tokens.Clone at = Some (Goes (Opening ByRound (InWord term.Clone at)))
operand tokens.Active at = Some (Goes (Opening ByRound (InActive at)))
operand tokens.Serve at = Some (Goes (ServeOpening false at))
operand tokens.Repeat at = Some (Goes (Opening ByRound (InWord term.Repeat at)))
operand tokens.Print at = Some (Goes (Opening ByRound (InWord term.Print at)))
operand tokens.If at = Some (Goes (Opening ByRound (InCondition at)))
operand tokens.Echo at = Some (Goes (EchoOpening at))
operand tokens.Group at = Some (Goes (GroupOpening at))
operand tokens.Scatter at = Some (Goes (Opening ByRound (InScatter at)))
operand tokens.Size at = Some (Goes (Opening ByRound (InWord term.Size at)))
operand tokens.Member at = Some (Goes (Opening ByRound (InMember at)))
operand tokens.WaitAll at = Some (Goes (Opening ByRound (InWord term.WaitAll at)))
operand tokens.Pending at = Some (Goes (ServeOpening true at))
operand token at = None

-- a token that begins a sequence's term
abbrev pub begin : Token → ℕ → Option ChangeShape
begin tokens.Let at = Some (Goes (LetNaming at))
begin token at = operand token at

abbrev pub opening : OpenerShape → KindShape → Token → Option ChangeShape
opening ByRound kind tokens.Open = Some (Opens kind)
opening ByBrace kind tokens.BraceOpen = Some (Opens kind)
opening ByEquals kind tokens.Equals = Some (Opens kind)
opening ByComma kind tokens.Comma = Some (Opens kind)
opening opener kind token = None

abbrev pub dotted : PartShape → Token → ℕ → Option ChangeShape
dotted p (tokens.Name label) at = Some (Goes (Have (Access p at label)))
dotted p token at = None

abbrev pub let_named : ℕ → Token → ℕ → Option ChangeShape
let_named let_at (tokens.Name x) at = Some (Goes (Opening ByEquals (InBinding let_at at x)))
let_named let_at token at = None

-- the label behind the term of an `active`
abbrev pub service_named : ℕ → Marked → Token → ℕ → Option ChangeShape
service_named active_at t (tokens.Name label) at = Some (Goes (ServiceNamed active_at t at label))
service_named active_at t token at = None

abbrev pub service_closed : ℕ → Marked → ℕ → Text → Token → Option ChangeShape
service_closed at t label_at label tokens.Close = Some (Goes (Have (Plain (part at (active_at at (label_at ∷ []) (Some label) t)))))
service_closed at t label_at label token = None

abbrev pub group_opened : ℕ → Token → Option ChangeShape
group_opened at tokens.Open = Some (Goes (ListBegun (OfGroup at)))
group_opened at token = None

-- the label behind the first group of a `scatter`
abbrev pub scatter_named : ℕ → Marked → Token → ℕ → Option ChangeShape
scatter_named scatter_at t (tokens.Name label) at = Some (Goes (Opening ByComma (InArguments scatter_at t at label)))
scatter_named scatter_at t token at = None

abbrev pub serve_opened : Bool → ℕ → Token → Option ChangeShape
serve_opened polls at tokens.Open = Some (Goes (ServeBegun (new_labels polls at)))
serve_opened polls at token = None

abbrev pub label_named : LabelsShape → Token → ℕ → Option ChangeShape
label_named x (tokens.Name label) at = Some (Goes (LabelNamed (with_label x at label)))
label_named x token at = None

-- the first token in a `serve` or a `pending`
abbrev pub serve_begun : LabelsShape → Token → ℕ → Option ChangeShape
serve_begun x tokens.Close at = Some (Goes (Have (Plain (served x))))
serve_begun x token at = label_named x token at

abbrev pub labels_go_on : LabelsShape → Token → Option ChangeShape
labels_go_on x tokens.Comma = Some (Goes (LabelNaming x))
labels_go_on x tokens.Close = Some (Goes (Have (Plain (served x))))
labels_go_on x token = None

abbrev pub else_came : ℕ → Marked → Marked → Token → Option ChangeShape
else_came at c t tokens.Else = Some (Goes (Opening ByBrace (InElse at c t)))
else_came at c t token = None

abbrev pub echo_opened : ℕ → Token → Option ChangeShape
echo_opened at tokens.Open = Some (Goes (EchoText at))
echo_opened at token = None

abbrev pub echo_read : ℕ → Token → Option ChangeShape
echo_read at (tokens.Text text) = Some (Goes (EchoClosing at text))
echo_read at token = None

abbrev pub echo_closed : ℕ → Text → Token → Option ChangeShape
echo_closed at text tokens.Close = Some (Goes (Have (Plain (part at (echo_at at text)))))
echo_closed at text token = None

abbrev pub field_named : ObjectShape → Token → ℕ → Option ChangeShape
field_named x (tokens.Name label) at = Some (Goes (Opening ByEquals (InField (with_name x at) label)))
field_named x token at = None

-- the first token in an object
abbrev pub object_begun : ObjectShape → Token → ℕ → Option ChangeShape
object_begun x tokens.Semicolon at = Some (Goes (MethodNaming x))
object_begun x tokens.SquareClose at = Some (Goes (Have (Plain (made x))))
object_begun x token at = field_named x token at

abbrev pub method_named : ObjectShape → Token → ℕ → Option ChangeShape
method_named x (tokens.Name label) at = Some (Goes (MethodNamed (with_name x at) label))
method_named x token at = None

abbrev pub method_opened : ObjectShape → Text → Token → Option ChangeShape
method_opened x label tokens.Open = Some (Goes (SelfNaming x label))
method_opened x label token = None

abbrev pub self_named : ObjectShape → Text → Token → ℕ → Option ChangeShape
self_named x label (tokens.Name slf) at = Some (Goes (HeadNamed (with_name x at) (record { label = label; slf = slf; parameters = [] })))
self_named x label token at = None

abbrev pub head_goes_on : ObjectShape → MethodHead → Token → Option ChangeShape
head_goes_on x h tokens.Comma = Some (Goes (ParameterNaming x h))
head_goes_on x h tokens.Close = Some (Goes (Opening ByEquals (InMethod x h)))
head_goes_on x h token = None

abbrev pub parameter_named : ObjectShape → MethodHead → Token → ℕ → Option ChangeShape
parameter_named x h (tokens.Name name) at = Some (Goes (HeadNamed (with_name x at) (with_parameter h name)))
parameter_named x h token at = None
