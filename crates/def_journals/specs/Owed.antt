-- What is owed to whom, and the verdict that a core tells.
use Rattle.std.specs.Prelude.{ℕ, ◌&&◌, ◌||◌, nat_lt, Bool, true, false, List, [], ◌∷◌, ◌++◌, Option, Some, None, is_some}
use Rattle.std.specs.List.{list_any}
use Rattle.std.specs.FinMap.{find}
use Rattle.asp_model.specs.Names.{Name, FutureShape, name_cmp}
use Rattle.asp_model.specs.Split.{Stands, Splits, split}
use Rattle.asp_model.specs.Store.{CellShape, Future, Store, cell}
use Rattle.asp_model.specs.Contraction.{strict_operands, strict_members, first_future}
use Rattle.asp_model.specs.Chase.{Chase, Value, Unfilled, Cycle, chase}
use Rattle.asp_model.specs.Configuration.{Activity, Configuration}
use Rattle.asp_model.specs.Status.{VerdictShape, is_running, statuses_of, verdict_of}
use Rattle.asp_model.specs.History.{ChoiceShape, DeliveryShape, Edge, Need}
use Rattle.def_journals.specs.Journals.{RunShape, is_in}
use Rattle.def_journals.specs.Edges.{EdgeShape, HoldersShape, is_owed}

-- Needs

-- the future to whose value this one leads, with the place
abbrev pub needed_at : Chase → ℕ → Option (FutureShape × ℕ)
needed_at (Value f p) place = Some (f, place)
needed_at (Unfilled f) place = None
needed_at (Cycle f) place = None

-- the need at a cell that is a future
abbrev pub need_in : (FutureShape → Chase) → ℕ → CellShape → Option (FutureShape × ℕ)
need_in chases place (Future f) = needed_at (chases f) place
need_in chases place c = None

-- the need at the place of the first operand that is a future, if there is one
abbrev pub need_at : (FutureShape → Chase) → Store → Option ℕ → Option (FutureShape × ℕ)
need_at chases s None = None
need_at chases s (Some place) = need_in chases place (cell s place)

-- the first strict operand that is a future, where it leads to a value: the value's future and the place
abbrev pub need_of : (FutureShape → Chase) → Activity → Option (FutureShape × ℕ)
need_of chases a = elim (split a.term) [
  | Stands place ↦ None
  | Splits contexts r ↦ need_at chases a.store (first_future a.store (strict_operands r.head r.places ++ strict_members a.store r.head r.places))
]

-- the need of an activity of a configuration
abbrev pub need_to : Configuration → Name → Option (FutureShape × ℕ)
need_to c n = elim (find name_cmp n c.activities) [ None ↦ None | Some a ↦ need_of (chase c.futures) a ]

-- What is owed next

-- the delivery that a need asks for
abbrev pub need_delivery : Name → Option (FutureShape × ℕ) → Option DeliveryShape
need_delivery n None = None
need_delivery n (Some x) = Some (Need x.0 n x.1)

-- the first, or the second where there is none
abbrev pub or_else : Option DeliveryShape → Option DeliveryShape → Option DeliveryShape
or_else (Some x) o = Some x
or_else None o = o

-- the need of the first of these activities that is in and has one
abbrev pub first_need : RunShape → List Name → Option DeliveryShape
first_need s [] = None
first_need s (n ∷ ns) = elim (is_in s n) [
  | true ↦ or_else (need_delivery n (need_to s.configuration n)) (first_need s ns)
  | false ↦ first_need s ns
]

-- the first of these edges, each with its answer, that is owed to an activity that is in
abbrev pub first_edge : RunShape → HoldersShape → List EdgeShape → List ChoiceShape → Option DeliveryShape
first_edge s h [] answers = None
first_edge s h (x ∷ xs) [] = None
first_edge s h (x ∷ xs) (answer ∷ answers) = elim (is_owed h answer x && is_in s x.to) [
  | true ↦ Some (Edge x.future x.from x.to)
  | false ↦ first_edge s h xs answers
]

-- needs before edges: the need of the activity with the least number, then the edge that was entered first
abbrev pub next_owed : RunShape → HoldersShape → List ChoiceShape → Option DeliveryShape
next_owed s h answers = or_else (first_need s s.names) (first_edge s h h.edges answers)

-- The verdict

-- the list is not empty
abbrev pub is_any : {A : Type 0} → List A → Bool
is_any [] = false
is_any (x ∷ xs) = true

-- some activity can step, and there is budget left
abbrev pub goes_on : RunShape → Bool
goes_on s = nat_lt 0 s.left && list_any is_running (statuses_of s.configuration)

-- none where an activity is out, a delivery is owed, or the run can go on
abbrev pub verdict_told : RunShape → HoldersShape → List ChoiceShape → Option VerdictShape
verdict_told s h answers = elim (is_any s.out || (is_some (next_owed s h answers) || goes_on s)) [
  | true ↦ None
  | false ↦ Some (verdict_of s.configuration)
]
