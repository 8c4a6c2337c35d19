-- Reading lexeme by lexeme. `true` asks for the rule on `:=`.
use Rattle.std.specs.Prelude.{ℕ, Bool, true, false, List, [], ◌∷◌, ◌++◌, Option, Some, None}
use Rattle.asp_model.specs.Term as term
use Rattle.syntax_tokens.specs.declared.token.Token.{Token}
use Rattle.syntax_tokens.specs.declared.token.Token.TheVariants as tokens
use Rattle.syntax_tokens.specs.Tokens.{Lexeme}
use Rattle.syntax_grammar.specs.Nodes.{PartShape, echo_at, if_at, let_at}
use Rattle.syntax_grammar.specs.Grammar.{may_put}
use Rattle.syntax_grammar.specs.States.{OperatorShape, TargetShape, KindShape, Top, InList, InField, OpenShape, OperandShape, Plain, ModeShape, Begin, Want, Have, Dotted, ListBegun, Opening, LetNaming, ServiceNaming, ServiceNamed, GroupOpening, ScatterNaming, ServeOpening, ServeBegun, LabelNaming, LabelNamed, ElseComing, EchoOpening, EchoText, EchoClosing, ObjectBegun, FieldNaming, MethodNaming, MethodNamed, SelfNaming, HeadNamed, ParameterNaming, StateShape, At, Done, with_product, with_sum, with_test, with_put, fresh, with_field, operand_part, listed, test_in, term_in, first_start}
use Rattle.syntax_grammar.specs.Closings.{◌>>=◌, finish, back, concluded, close, close_brace, close_square, comma, bound, ended}
use Rattle.syntax_grammar.specs.Changes.{ChangeShape, changed, call_begun, operand, begin, opening, dotted, let_named, service_named, service_closed, group_opened, scatter_named, serve_opened, serve_begun, label_named, labels_go_on, else_came, echo_opened, echo_read, echo_closed, field_named, object_begun, method_named, method_opened, self_named, head_goes_on, parameter_named}

-- a term is over, and the next one of its sequence begins, or the methods behind the fields
abbrev pub next_term : KindShape → PartShape → OpenShape → List OpenShape → Option StateShape
next_term (InField object label) e s outer = back (MethodNaming (with_field object label e.term)) outer
next_term kind e s outer =
    Some (At Begin (record {
      kind = kind;
      start = first_start s.before s.start e.start;
      before = s.before ++ e.term ∷ [];
      puts = [];
      test = None;
      sum = None;
      product = None;
    }) outer)

-- an operator behind an operand
abbrev pub times : term.SignShape → PartShape → OpenShape → List OpenShape → Option StateShape
times sign p s outer = Some (At Want (with_product sign p s) outer)

-- a sign of sums after an operand
abbrev pub plus : term.SignShape → PartShape → OpenShape → List OpenShape → Option StateShape
plus sign p s outer = Some (At Want (with_sum sign p s) outer)

-- one test in a term, unless parentheses part them
abbrev pub test_behind : Option OperatorShape → term.SignShape → PartShape → OpenShape → List OpenShape → Option StateShape
test_behind (Some a) sign p s outer = None
test_behind None sign p s outer = Some (At Want (with_test sign p s) outer)

-- `:=` after an operand, if that may stand on its left
abbrev pub assign : PartShape → Bool → OpenShape → List OpenShape → Option StateShape
assign p false s outer = None
assign p true s outer = Some (At Want (with_put p s) outer)

-- a token behind an operand, but for the bracket of a call
abbrev pub behind : Bool → PartShape → OpenShape → List OpenShape → Token → Option StateShape
behind rule p s outer tokens.Dot = Some (At (Dotted p) s outer)
behind rule p s outer tokens.Star = times term.Multiply p s outer
behind rule p s outer tokens.Slash = times term.Divide p s outer
behind rule p s outer tokens.Percent = times term.Remainder p s outer
behind rule p s outer tokens.Plus = plus term.Add p s outer
behind rule p s outer tokens.Minus = plus term.Subtract p s outer
behind rule p s outer tokens.Less = test_behind s.test term.Less p s outer
behind rule p s outer tokens.Same = test_behind s.test term.Equal p s outer
behind rule p s outer tokens.Assign = assign (test_in s p) (may_put rule (test_in s p).term) s outer
behind rule p s outer tokens.Semicolon = next_term s.kind (term_in s p) s outer
behind rule p s outer tokens.In = concluded bound (finish p s outer)
behind rule p s outer tokens.Close = concluded close (finish p s outer)
behind rule p s outer tokens.BraceClose = concluded close_brace (finish p s outer)
behind rule p s outer tokens.SquareClose = concluded close_square (finish p s outer)
behind rule p s outer tokens.Comma = concluded comma (finish p s outer)
behind rule p s outer tokens.End = ended (finish p s outer)
behind rule p s outer token = None

-- a token after an operand
abbrev pub have : Bool → OperandShape → OpenShape → List OpenShape → Token → Option StateShape
have rule x s outer tokens.Open = changed (call_begun x) s outer
have rule x s outer token = behind rule (operand_part x) s outer token

-- the first token of a list of terms, or its end
abbrev pub listing : TargetShape → OpenShape → List OpenShape → Token → ℕ → Option StateShape
listing target s outer tokens.Close at = Some (At (Have (Plain (listed target []))) s outer)
listing target s outer token at = changed (begin token at) (fresh (InList target [])) (s ∷ outer)

-- what a token makes of a mode in which no operand was read
abbrev pub change_of : ModeShape → Token → ℕ → Option ChangeShape
change_of Begin token at = begin token at
change_of Want token at = operand token at
change_of (Have x) token at = None
change_of (Dotted p) token at = dotted p token at
change_of (ListBegun target) token at = None
change_of (Opening opener kind) token at = opening opener kind token
change_of (LetNaming let_at) token at = let_named let_at token at
change_of (ServiceNaming active_at t) token at = service_named active_at t token at
change_of (ServiceNamed active_at t label_at label) token at = service_closed active_at t label_at label token
change_of (GroupOpening group_at) token at = group_opened group_at token
change_of (ScatterNaming scatter_at t) token at = scatter_named scatter_at t token at
change_of (ServeOpening polls serve_at) token at = serve_opened polls serve_at token
change_of (ServeBegun x) token at = serve_begun x token at
change_of (LabelNaming x) token at = label_named x token at
change_of (LabelNamed x) token at = labels_go_on x token
change_of (ElseComing if_at c t) token at = else_came if_at c t token
change_of (EchoOpening echo_at) token at = echo_opened echo_at token
change_of (EchoText echo_at) token at = echo_read echo_at token
change_of (EchoClosing echo_at text) token at = echo_closed echo_at text token
change_of (ObjectBegun x) token at = object_begun x token at
change_of (FieldNaming x) token at = field_named x token at
change_of (MethodNaming x) token at = method_named x token at
change_of (MethodNamed x label) token at = method_opened x label token
change_of (SelfNaming x label) token at = self_named x label token at
change_of (HeadNamed x h) token at = head_goes_on x h token
change_of (ParameterNaming x h) token at = parameter_named x h token at

-- one lexeme on, or nothing where it may not stand
abbrev pub stepped : Bool → ModeShape → OpenShape → List OpenShape → Token → ℕ → Option StateShape
stepped rule Begin s outer token at = changed (begin token at) s outer
stepped rule Want s outer token at = changed (operand token at) s outer
stepped rule (Have x) s outer token at = have rule x s outer token
stepped rule (Dotted p) s outer token at = changed (dotted p token at) s outer
stepped rule (ListBegun target) s outer token at = listing target s outer token at
stepped rule (Opening opener kind) s outer token at = changed (opening opener kind token) s outer
stepped rule (LetNaming let_at) s outer token at = changed (let_named let_at token at) s outer
stepped rule (ServiceNaming active_at t) s outer token at = changed (service_named active_at t token at) s outer
stepped rule (ServiceNamed active_at t label_at label) s outer token at = changed (service_closed active_at t label_at label token) s outer
stepped rule (GroupOpening group_at) s outer token at = changed (group_opened group_at token) s outer
stepped rule (ScatterNaming scatter_at t) s outer token at = changed (scatter_named scatter_at t token at) s outer
stepped rule (ServeOpening polls serve_at) s outer token at = changed (serve_opened polls serve_at token) s outer
stepped rule (ServeBegun x) s outer token at = changed (serve_begun x token at) s outer
stepped rule (LabelNaming x) s outer token at = changed (label_named x token at) s outer
stepped rule (LabelNamed x) s outer token at = changed (labels_go_on x token) s outer
stepped rule (ElseComing if_at c t) s outer token at = changed (else_came if_at c t token) s outer
stepped rule (EchoOpening echo_at) s outer token at = changed (echo_opened echo_at token) s outer
stepped rule (EchoText echo_at) s outer token at = changed (echo_read echo_at token) s outer
stepped rule (EchoClosing echo_at text) s outer token at = changed (echo_closed echo_at text token) s outer
stepped rule (ObjectBegun x) s outer token at = changed (object_begun x token at) s outer
stepped rule (FieldNaming x) s outer token at = changed (field_named x token at) s outer
stepped rule (MethodNaming x) s outer token at = changed (method_named x token at) s outer
stepped rule (MethodNamed x label) s outer token at = changed (method_opened x label token) s outer
stepped rule (SelfNaming x label) s outer token at = changed (self_named x label token at) s outer
stepped rule (HeadNamed x h) s outer token at = changed (head_goes_on x h token) s outer
stepped rule (ParameterNaming x h) s outer token at = changed (parameter_named x h token at) s outer

-- the next state; none if the token cannot stand there
abbrev pub step : Bool → StateShape → Lexeme → Option StateShape
step rule (At mode s outer) l = stepped rule mode s outer l.token l.at
step rule (Done t) l = None

-- the state after lexemes
abbrev pub run : Bool → StateShape → List Lexeme → Option StateShape
run rule x [] = Some x
run rule x (l ∷ ls) = step rule x l >>= λ y. run rule y ls

-- before the first lexeme
abbrev pub start : StateShape
start = At Begin (fresh Top) []
