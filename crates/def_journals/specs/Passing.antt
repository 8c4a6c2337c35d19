-- The events of a journal, and the edges that they leave.
use Rattle.std.specs.Prelude.{ℕ, zero, suc, List, [], ◌∷◌, ◌++◌, Option, Some, None, map}
use Rattle.std.specs.List.{flat_map}
use Rattle.std.specs.FinMap.{find}
use Rattle.asp_model.specs.Names.{Name, FutureShape, name_cmp, future_cmp}
use Rattle.asp_model.specs.Split.{Redex, Stands, Splits, split}
use Rattle.asp_model.specs.Store.{CellShape, Future, Store, cell}
use Rattle.asp_model.specs.Parcel.{ParcelShape}
use Rattle.asp_model.specs.Contraction.{strict_operands, strict_members}
use Rattle.asp_model.specs.Chase.{Chase, Value, Unfilled, Cycle, chase}
use Rattle.asp_model.specs.Configuration.{RequestShape, Activity, Configuration}
use Rattle.asp_model.specs.Intent.{Effect, Acts, Rests, Reads, Lacks, operand_ready, operands_ready}
use Rattle.asp_model.specs.Step.{intent_in, step}
use Rattle.asp_model.specs.History.{Edge, Need, EntryShape, Lent, Committed, Delivered, HistoryShape}
use Rattle.def_journals.specs.Journals.{RunShape, entered, first_in, first_run}
use Rattle.def_journals.specs.Edges.{Event, Begins, Passes, Fills, Receives, Delivers, HoldersShape, first_holders, after_events}
use Rattle.asp_model.specs.Step.{name_at}

-- Futures in cells

-- the future that a cell is, if it is one
abbrev pub future_in : CellShape → List FutureShape
future_in (Future f) = f ∷ []
future_in c = []

-- the futures that cells hold, in order
abbrev pub futures_in : List CellShape → List FutureShape
futures_in = flat_map future_in

-- What a step unpacks

-- the value to which a future leads, with that value's own future
abbrev pub value_read : Chase → List (FutureShape × ParcelShape)
value_read (Value f p) = (f, p) ∷ []
value_read (Unfilled f) = []
value_read (Cycle f) = []

-- the value to which the future in a cell leads
abbrev pub cell_read : (FutureShape → Chase) → CellShape → List (FutureShape × ParcelShape)
cell_read chases (Future f) = value_read (chases f)
cell_read chases c = []

-- the futures whose values are unpacked where these operands are read, in order, each with its value
abbrev pub operands_read : (FutureShape → Chase) → Store → List ℕ → List (FutureShape × ParcelShape)
operands_read chases s [] = []
operands_read chases s (n ∷ ns) = cell_read chases (cell s n) ++ elim (operand_ready chases s n (cell s n)) [
  | Reads t ↦ operands_read chases t ns
  | Lacks f ↦ []
]

-- at the operands of a redex, then at the members of a group that is waited for
abbrev pub redex_read : (FutureShape → Chase) → Store → Redex → List (FutureShape × ParcelShape)
redex_read chases s r =
    let places : List ℕ = strict_operands r.head r.places in
    operands_read chases s places ++ elim (operands_ready chases s places) [
      | Reads t ↦ operands_read chases t (strict_members t r.head r.places)
      | Lacks f ↦ []
    ]

-- what a step of an activity unpacks at strict operands, in order
abbrev pub unpacked_by : (FutureShape → Chase) → Activity → List (FutureShape × ParcelShape)
unpacked_by chases a = elim (split a.term) [ Stands place ↦ [] | Splits contexts redex ↦ redex_read chases a.store redex ]

-- Events of a step

-- an activity receives a value, and with it the futures that this holds
abbrev pub receives : Name → FutureShape × ParcelShape → Event
receives n x = Receives x.0 n (futures_in x.1.cells)

-- each future that these cells hold goes from one activity to another
abbrev pub passes_all : (from to : Name) → List CellShape → List Event
passes_all from to cells = map (λ f. Passes (record { future = f; from = from; to = to })) (futures_in cells)

-- a request's own future goes from its home to the sender, those of the arguments from the sender to the home
abbrev pub sent_events : Name → Option (Name × RequestShape) → List Event
sent_events n None = []
sent_events n (Some x) =
    let own : FutureShape = x.1.future in
    Begins own x.0 ∷ Passes (record { future = own; from = x.0; to = n }) ∷ passes_all n x.0 x.1.arguments.cells

-- the store of a new activity is its parcel
abbrev pub made_events : Name → Option (Name × Activity) → List Event
made_events n None = []
made_events n (Some x) = passes_all n x.0 x.1.store

-- a future is filled
abbrev pub filled_events : Option (FutureShape × ParcelShape) → List Event
filled_events None = []
filled_events (Some x) = Fills x.0 ∷ []

-- strict operands first
abbrev pub effect_events : Name → List (FutureShape × ParcelShape) → Effect → List Event
effect_events n read e = map (receives n) read ++ (sent_events n e.sent ++ (made_events n e.made ++ filled_events e.filled))

-- what the next step of an activity of a configuration unpacks
abbrev pub read_in : Configuration → Name → List (FutureShape × ParcelShape)
read_in c n = elim (find name_cmp n c.activities) [ None ↦ [] | Some a ↦ unpacked_by (chase c.futures) a ]

-- the events of a step that is taken
abbrev pub step_events : Configuration → Name → List Event
step_events c n = elim (intent_in c n) [ Rests status ↦ [] | Acts e ↦ effect_events n (read_in c n) e ]

-- the events of so many steps of an activity, as far as it can take them
abbrev pub steps_events : ℕ → Configuration → Name → List Event
steps_events zero c n = []
steps_events (suc r) c n = step_events c n ++ elim (step None c n) [ None ↦ [] | Some d ↦ steps_events r d n ]

-- Events of a journal

-- an activity receives the own value of a future, if it has one
abbrev pub received_events : Configuration → FutureShape → Name → List Event
received_events c f to = elim (find future_cmp f c.futures) [ None ↦ [] | Some p ↦ receives to (f, p) ∷ [] ]

-- the events of so many steps of the activity that has this name, if there is one
abbrev pub named_events : RunShape → ℕ → Option Name → List Event
named_events s r None = []
named_events s r (Some n) = steps_events r s.configuration n

-- of an entry whose condition holds
abbrev pub entry_events : EntryShape → RunShape → List Event
entry_events (Lent k) s = []
entry_events (Committed k r) s = named_events s r (name_at s.names k)
entry_events (Delivered (Edge f from to)) s = Delivers (record { future = f; from = from; to = to }) ∷ received_events s.configuration f to
entry_events (Delivered (Need f to place)) s = received_events s.configuration f to

-- the events of entries, up to the first whose condition does not hold
abbrev pub events_from : List EntryShape → RunShape → List Event
events_from [] s = []
events_from (x ∷ xs) s = entry_events x s ++ elim (entered x s) [ None ↦ [] | Some t ↦ events_from xs t ]

-- of the entries of a history
abbrev pub events_of : HistoryShape → List Event
events_of h = events_from h.entries (first_run h)

-- what a lawful history leaves: homes, edges, who has received what, and what was delivered
abbrev pub holders_of : HistoryShape → HoldersShape
holders_of h = after_events (events_of h) (first_holders (first_in h).configuration)
