-- The nodes that lexemes make, each with its mark.
use Rattle.std.specs.Prelude.{ℕ, ◌+◌, ℤ, Bool, true, false, List, [], ◌∷◌, ◌++◌, Option}
use Rattle.asp_model.specs.Names.{Text}
use Rattle.asp_model.specs.Term.{Head, SignShape, MethodHead}
use Rattle.asp_model.specs.Term as term
use Rattle.asp_model.specs.Marked.{MarkShape, Marked, marked, no_marked, and_marked, one_marked, two_marked, all_marked}
use Rattle.asp_model.specs.Shapes.{MarkedMethod, make_shape}

-- a term, and the place of its first token, parentheses round it included
pub record PartShape : Type 0 where
  pub start : ℕ
  pub term : Marked

abbrev pub part : ℕ → Marked → PartShape
part start t = record { start = start; term = t }

-- the mark of a node with the places of its names
abbrev pub named_mark : ℕ → List ℕ → MarkShape
named_mark at names = record { at = at; parentheses = 0; left = 0; names = names }

abbrev pub mark_at : ℕ → MarkShape
mark_at at = named_mark at []

abbrev pub number_at : ℕ → ℤ → Marked
number_at at n = marked (term.Number n) (mark_at at) no_marked

abbrev pub variable_at : ℕ → Text → Marked
variable_at at x = marked (term.Var x) (mark_at at) no_marked

abbrev pub echo_at : ℕ → Text → Marked
echo_at at text = marked (term.Echo text) (mark_at at) no_marked

-- a `clone`, a `repeat`, a `print`, a `size` or a `waitall`
abbrev pub word_at : Head → ℕ → Marked → Marked
word_at head at t = marked head (mark_at at) (one_marked t)

abbrev pub if_at : ℕ → Marked → Marked → Marked → Marked
if_at at c t u = marked term.If (mark_at at) (and_marked c (two_marked t u))

abbrev pub let_at : ℕ → ℕ → Text → Marked → Marked → Marked
let_at at name_at x t u = marked (term.Let x) (named_mark at (name_at ∷ [])) (two_marked t u)

-- an `active`, with the label of its service where one is named
abbrev pub active_at : ℕ → List ℕ → Option Text → Marked → Marked
active_at at names service t = marked (term.Active service) (named_mark at names) (one_marked t)

abbrev pub group_at : ℕ → List Marked → Marked
group_at at ts = marked term.Group (mark_at at) (all_marked ts)

-- a `scatter` of two groups, with the place of the label between them
abbrev pub scatter_at : ℕ → ℕ → Text → Marked → Marked → Marked
scatter_at at label_at label t u = marked (term.Scatter label) (named_mark at (label_at ∷ [])) (two_marked t u)

-- a `member` of a group, and the term of its number
abbrev pub member_at : ℕ → Marked → Marked → Marked
member_at at t u = marked term.Member (mark_at at) (two_marked t u)

-- two terms with a sign between them
abbrev pub operated : SignShape → PartShape → PartShape → PartShape
operated sign p q = part p.start (marked (term.Operate sign) (mark_at p.start) (two_marked p.term q.term))

abbrev pub got : PartShape → ℕ → Text → PartShape
got p at label = part p.start (marked (term.Get label) (named_mark p.start (at ∷ [])) (one_marked p.term))

abbrev pub called : PartShape → ℕ → Text → List Marked → PartShape
called p at label ts = part p.start (marked (term.Call label) (named_mark p.start (at ∷ [])) (and_marked p.term (all_marked ts)))

-- a new value for the field that an access names; of another term the reader makes no such node
abbrev pub put_to : ℕ → Marked → Marked → Marked
put_to at (marked (term.Get label) m (and_marked t no_marked)) u =
    marked (term.Put label) (record { at = at; parentheses = 0; left = m.parentheses; names = m.names }) (two_marked t u)
put_to at t u = marked term.Hole (mark_at at) (two_marked t u)

abbrev pub put : PartShape → PartShape → PartShape
put p q = part p.start (put_to p.start p.term q.term)

abbrev pub is_get : Marked → Bool
is_get (marked (term.Get label) m (and_marked t no_marked)) = true
is_get _ = false

-- one term, or the steps of several
abbrev pub terms_at : ℕ → List Marked → Marked
terms_at at (t ∷ []) = t
terms_at at ts = marked term.Steps (mark_at at) (all_marked ts)

abbrev pub once_more : MarkShape → MarkShape
once_more m = record m { parentheses = m.parentheses + 1 }

-- a term in one more pair of parentheses
abbrev pub in_parentheses : Marked → Marked
in_parentheses (marked h m ts) = marked h (once_more m) ts

-- an object that was begun: the place of its bracket, the places of the names in it, its fields and methods
pub record ObjectShape : Type 0 where
  pub at : ℕ
  pub names : List ℕ
  pub fields : List (Text × Marked)
  pub methods : List MarkedMethod

abbrev pub made : ObjectShape → PartShape
made x = part x.at (make_shape (named_mark x.at x.names) x.fields x.methods)

-- a `serve` or a `pending` with these labels
abbrev pub labelled : Bool → List Text → Head
labelled false labels = term.Serve labels
labelled true labels = term.Pending labels

-- one that was begun: its place, whether it is a `pending`, the places of its labels, and the labels
pub record LabelsShape : Type 0 where
  pub at : ℕ
  pub polls : Bool
  pub names : List ℕ
  pub labels : List Text

abbrev pub served : LabelsShape → PartShape
served x = part x.at (marked (labelled x.polls x.labels) (named_mark x.at x.names) no_marked)

abbrev pub method : MethodHead → Marked → MarkedMethod
method head body = record { head = head; body = body }

abbrev pub with_parameter : MethodHead → Text → MethodHead
with_parameter h x = record h { parameters = h.parameters ++ x ∷ [] }
