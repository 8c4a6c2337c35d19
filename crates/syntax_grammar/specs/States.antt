-- The states of reading: what the lexemes so far have begun.
use Rattle.std.specs.Prelude.{ℕ, Bool, true, false, List, [], ◌∷◌, ◌++◌, Option, Some, None}
use Rattle.asp_model.specs.Names.{Text}
use Rattle.asp_model.specs.Term.{Head, SignShape, MethodHead}
use Rattle.asp_model.specs.Marked.{Marked}
use Rattle.syntax_grammar.specs.Nodes.{PartShape, part, operated, got, called, put, group_at, terms_at, ObjectShape, LabelsShape, method}

-- an operator whose right side has to come, and what stands on its left
pub record OperatorShape : Type 0 where
  pub sign : SignShape
  pub left : PartShape

-- what a list of terms in parentheses is for: the arguments of a call, or the members of a group
pub data TargetShape : Type 0 where
  OfCall : (receiver : PartShape) (at : ℕ) (label : Text) → TargetShape
  OfGroup : (at : ℕ) → TargetShape

-- what a term stands in, with what was read of that
pub data KindShape : Type 0 where
  Top : KindShape
  InParentheses : (at : ℕ) → KindShape
  InWord : (head : Head) (at : ℕ) → KindShape
  InActive : (at : ℕ) → KindShape
  InCondition : (at : ℕ) → KindShape
  InThen : (at : ℕ) (condition : Marked) → KindShape
  InElse : (at : ℕ) (condition chosen : Marked) → KindShape
  InList : (target : TargetShape) (terms : List Marked) → KindShape
  InScatter : (at : ℕ) → KindShape
  InArguments : (at : ℕ) (group : Marked) (label_at : ℕ) (label : Text) → KindShape
  InMember : (at : ℕ) → KindShape
  InIndex : (at : ℕ) (group : Marked) → KindShape
  InBinding : (at name_at : ℕ) (name : Text) → KindShape
  InBody : (at name_at : ℕ) (name : Text) (bound : Marked) → KindShape
  InField : (object : ObjectShape) (label : Text) → KindShape
  InMethod : (object : ObjectShape) (head : MethodHead) → KindShape

-- a sequence, or the term of a field, that was begun: where it begins, its terms before, the left sides of
-- its `:=`, innermost first, and its operators that wait for their right sides
pub record OpenShape : Type 0 where
  pub kind : KindShape
  pub start : ℕ
  pub before : List Marked
  pub puts : List PartShape
  pub test : Option OperatorShape
  pub sum : Option OperatorShape
  pub product : Option OperatorShape

-- an operand; a bracket behind a field access makes it a call
pub data OperandShape : Type 0 where
  Plain : (part : PartShape) → OperandShape
  Access : (receiver : PartShape) (at : ℕ) (label : Text) → OperandShape

-- the token that opens a sequence behind a word or a name
pub data OpenerShape : Type 0 where
  ByRound : OpenerShape
  ByBrace : OpenerShape
  ByEquals : OpenerShape
  ByComma : OpenerShape

-- what the last lexeme asks for, or made
pub data ModeShape : Type 0 where
  Begin : ModeShape
  Want : ModeShape
  Have : (operand : OperandShape) → ModeShape
  Dotted : (receiver : PartShape) → ModeShape
  ListBegun : (target : TargetShape) → ModeShape
  Opening : (opener : OpenerShape) (kind : KindShape) → ModeShape
  LetNaming : (at : ℕ) → ModeShape
  ServiceNaming : (at : ℕ) (object : Marked) → ModeShape
  ServiceNamed : (at : ℕ) (object : Marked) (label_at : ℕ) (label : Text) → ModeShape
  GroupOpening : (at : ℕ) → ModeShape
  ScatterNaming : (at : ℕ) (group : Marked) → ModeShape
  ServeOpening : (polls : Bool) (at : ℕ) → ModeShape
  ServeBegun : (labels : LabelsShape) → ModeShape
  LabelNaming : (labels : LabelsShape) → ModeShape
  LabelNamed : (labels : LabelsShape) → ModeShape
  ElseComing : (at : ℕ) (condition chosen : Marked) → ModeShape
  EchoOpening : (at : ℕ) → ModeShape
  EchoText : (at : ℕ) → ModeShape
  EchoClosing : (at : ℕ) (text : Text) → ModeShape
  ObjectBegun : (object : ObjectShape) → ModeShape
  FieldNaming : (object : ObjectShape) → ModeShape
  MethodNaming : (object : ObjectShape) → ModeShape
  MethodNamed : (object : ObjectShape) (label : Text) → ModeShape
  SelfNaming : (object : ObjectShape) (label : Text) → ModeShape
  HeadNamed : (object : ObjectShape) (head : MethodHead) → ModeShape
  ParameterNaming : (object : ObjectShape) (head : MethodHead) → ModeShape

-- how far the reading is: what may come next, what is open, innermost first; or the whole program
pub data StateShape : Type 0 where
  At : (mode : ModeShape) (inner : OpenShape) (outer : List OpenShape) → StateShape
  Done : (term : Marked) → StateShape

-- an operator that waits for its right side
abbrev pub operator : SignShape → PartShape → OperatorShape
operator sign left = record { sign = sign; left = left }

-- a field's term is no sequence
abbrev pub has_terms : KindShape → Bool
has_terms (InField object label) = false
has_terms kind = true

-- an open sequence, part by part
abbrev pub opened_with : KindShape → ℕ → List Marked → List PartShape → Option OperatorShape → Option OperatorShape → Option OperatorShape → OpenShape
opened_with kind start before puts test sum product =
    record { kind = kind; start = start; before = before; puts = puts; test = test; sum = sum; product = product }

-- an open sequence of which nothing was read
abbrev pub fresh : KindShape → OpenShape
fresh kind = opened_with kind 0 [] [] None None None

-- an object of which nothing was read
abbrev pub new_object : ℕ → ObjectShape
new_object at = record { at = at; names = []; fields = []; methods = [] }

-- the object with the place of one name more
abbrev pub with_name : ObjectShape → ℕ → ObjectShape
with_name x at = record x { names = x.names ++ at ∷ [] }

-- with one field more
abbrev pub with_field : ObjectShape → Text → Marked → ObjectShape
with_field x label t = record x { fields = x.fields ++ (label, t) ∷ [] }

-- with one method more
abbrev pub with_method : ObjectShape → MethodHead → Marked → ObjectShape
with_method x head t = record x { methods = x.methods ++ method head t ∷ [] }

-- a `serve` or a `pending` of which no label was read
abbrev pub new_labels : Bool → ℕ → LabelsShape
new_labels polls at = record { at = at; polls = polls; names = []; labels = [] }

-- with one label more
abbrev pub with_label : LabelsShape → ℕ → Text → LabelsShape
with_label x at label = record x { names = x.names ++ at ∷ []; labels = x.labels ++ label ∷ [] }

-- the term that an operand is
abbrev pub operand_part : OperandShape → PartShape
operand_part (Plain p) = p
operand_part (Access p at label) = got p at label

-- what a list of terms makes
abbrev pub listed : TargetShape → List Marked → PartShape
listed (OfCall receiver at label) ts = called receiver at label ts
listed (OfGroup at) ts = part at (group_at at ts)

-- an operator with its right side
abbrev pub joined : Option OperatorShape → PartShape → PartShape
joined None p = p
joined (Some a) p = operated a.sign a.left p

-- the assignments that wait, from the innermost out, with their right side
abbrev pub put_all : List PartShape → PartShape → PartShape
put_all [] p = p
put_all (a ∷ ps) p = put_all ps (put a p)

-- the sum that an operand ends
abbrev pub sum_in : OpenShape → PartShape → PartShape
sum_in s p = joined s.sum (joined s.product p)

-- the test that an operand ends
abbrev pub test_in : OpenShape → PartShape → PartShape
test_in s p = joined s.test (sum_in s p)

-- the term that an operand ends
abbrev pub term_in : OpenShape → PartShape → PartShape
term_in s p = put_all s.puts (test_in s p)

-- once an operand has ended the sum, the test or the term that it stands in
abbrev pub without_sum : OpenShape → OpenShape
without_sum s = record s { sum = None; product = None }

-- without operators that wait
abbrev pub without_test : OpenShape → OpenShape
without_test s = record s { test = None; sum = None; product = None }

-- without assignments either
abbrev pub without_puts : OpenShape → OpenShape
without_puts s = record s { puts = []; test = None; sum = None; product = None }

-- once a sign stands behind an operand
abbrev pub with_product : SignShape → PartShape → OpenShape → OpenShape
with_product sign p s = record s { product = Some (operator sign (joined s.product p)) }

-- a sum that waits for its right side
abbrev pub with_sum : SignShape → PartShape → OpenShape → OpenShape
with_sum sign p s = record s { sum = Some (operator sign (sum_in s p)); product = None }

-- a test that waits for its right side
abbrev pub with_test : SignShape → PartShape → OpenShape → OpenShape
with_test sign p s = record s { test = Some (operator sign (sum_in s p)); sum = None; product = None }

-- once a `:=` stands behind a field access
abbrev pub with_put : PartShape → OpenShape → OpenShape
with_put p s = record s { puts = p ∷ s.puts; test = None; sum = None; product = None }

-- where a sequence with one more term begins
abbrev pub first_start : List Marked → ℕ → ℕ → ℕ
first_start [] n at = at
first_start (t ∷ ts) n at = n

-- once a term of a sequence is over, and the next one has to come
abbrev pub with_next : PartShape → OpenShape → OpenShape
with_next e s = record s { start = first_start s.before s.start e.start; before = s.before ++ e.term ∷ [] }

-- a sequence as one term
abbrev pub sequence_part : ℕ → List Marked → PartShape
sequence_part n ts = part n (terms_at n ts)

-- the sequence that an operand ends
abbrev pub value : OpenShape → PartShape → PartShape
value s p = let e = term_in s p in sequence_part (first_start s.before s.start e.start) (s.before ++ e.term ∷ [])
