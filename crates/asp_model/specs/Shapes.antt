-- What contracts see of the plain types: no boxes, vectors or texts.
use Rattle.std.specs.Prelude.{List, Option, ◌++◌, map}
use Rattle.std.specs.Option.{option_map}
use Rattle.asp_model.specs.declared.term.Sign.{Sign}
use Rattle.asp_model.specs.declared.term.Sign.TheVariants as sign
use Rattle.asp_model.specs.declared.term.Mark.{Mark}
use Rattle.asp_model.specs.declared.term.Term.{Term}
use Rattle.asp_model.specs.declared.term.Method.{Method}
use Rattle.asp_model.specs.declared.word.Label.{Label}
use Rattle.asp_model.specs.declared.term.Term.TheOpen as open_term
use Rattle.asp_model.specs.declared.term.Term.TheFolds.{fold-Term, fold-Method}
use Rattle.asp_model.specs.declared.outcome.Fault.{Fault}
use Rattle.asp_model.specs.declared.outcome.Fault.TheVariants as fault
use Rattle.asp_model.specs.declared.outcome.Status.{Status}
use Rattle.asp_model.specs.declared.outcome.Status.TheVariants as status
use Rattle.asp_model.specs.declared.outcome.Verdict.{Verdict}
use Rattle.asp_model.specs.declared.outcome.Verdict.TheVariants as verdict
use Rattle.asp_model.specs.declared.outcome.Line.{Line}
use Rattle.asp_model.specs.declared.outcome.Line.TheVariants as line
use Rattle.asp_model.specs.declared.outcome.Reception.{Reception}
use Rattle.asp_model.specs.declared.outcome.Reception.TheVariants as reception
use Rattle.asp_model.specs.declared.outcome.ActivityReport.{ActivityReport}
use Rattle.asp_model.specs.declared.outcome.Outcome.{Outcome}
use Rattle.asp_model.specs.declared.outcome.Lists.{Lists}
use Rattle.asp_model.specs.declared.outcome.Counts.{Counts}
use Rattle.asp_model.specs.declared.name.FutureName.{FutureName}
use Rattle.asp_model.specs.Names.{FutureShape, Text}
use Rattle.asp_model.specs.Term.{SignShape, MethodHead, Tree, Loc, Hole, Var, Number, Make, Get, Put, Call, Clone, Active, Serve, Let, Steps, If, Repeat, Operate, Print, Echo, Scatter, Size, Member, WaitAll, Pending}
use Rattle.asp_model.specs.Term as term
use Rattle.asp_model.specs.Store.{MethodShape}
use Rattle.asp_model.specs.Configuration.{ReceptionShape}
use Rattle.asp_model.specs.Configuration as model
use Rattle.asp_model.specs.Contraction.{FaultShape, LineShape, NumberLine, TextLine}
use Rattle.asp_model.specs.Contraction as contraction
use Rattle.asp_model.specs.Intent.{StatusShape}
use Rattle.asp_model.specs.Intent as intent
use Rattle.asp_model.specs.Step.{ListsShape}
use Rattle.asp_model.specs.Replay.{CountsShape}
use Rattle.asp_model.specs.Status.{VerdictShape}
use Rattle.asp_model.specs.Status as verdicts
use Rattle.asp_model.specs.Outcome.{ActivityReportShape, OutcomeShape}
use Rattle.asp_model.specs.declared.journal.Choice.{Choice}
use Rattle.asp_model.specs.declared.journal.Choice.TheVariants as choice
use Rattle.asp_model.specs.declared.journal.Delivery.{Delivery}
use Rattle.asp_model.specs.declared.journal.Delivery.TheVariants as delivery
use Rattle.asp_model.specs.declared.journal.Entry.{Entry}
use Rattle.asp_model.specs.declared.journal.Entry.TheVariants as entry
use Rattle.asp_model.specs.declared.journal.Start.{Start}
use Rattle.asp_model.specs.declared.services.Arrival.{Arrival}
use Rattle.asp_model.specs.declared.services.Labels.{Labels}
use Rattle.asp_model.specs.declared.services.ServiceEntry.{ServiceEntry}
use Rattle.asp_model.specs.declared.services.Services.{Services}
use Rattle.asp_model.specs.Services.{ArrivalShape, ServiceEntryShape, ServicesShape}
use Rattle.asp_model.specs.History.{ChoiceShape, DeliveryShape, EntryShape, FirstShape, HistoryShape}
use Rattle.asp_model.specs.History as history
use Rattle.asp_model.specs.Marked.{MarkShape, Marked, marked, no_marked, and_marked, one_marked, two_marked, all_marked, plain}

-- an operator
abbrev pub sign_shape : Sign → SignShape
sign_shape sign.Add = term.Add
sign_shape sign.Subtract = term.Subtract
sign_shape sign.Multiply = term.Multiply
sign_shape sign.Divide = term.Divide
sign_shape sign.Remainder = term.Remainder
sign_shape sign.Less = term.Less
sign_shape sign.Equal = term.Equal

-- a mark
abbrev pub mark_shape : Mark → MarkShape
mark_shape m = record { at = m.at; parentheses = m.parentheses; left = m.left; names = m.names.items }

-- a method as it was read
pub record MarkedMethod : Type 0 where
  pub head : MethodHead
  pub body : Marked

-- one method, with the shape of its body
abbrev pub method_step : open_term.Method-F Marked MarkedMethod → MarkedMethod
method_step m = record {
  head = record { label = m.label.text; slf = m.slf; parameters = m.parameters.items };
  body = m.body;
}

-- an object's fields and methods
abbrev pub make_shape : MarkShape → List (Text × Marked) → List MarkedMethod → Marked
make_shape m fields methods = marked (Make (map (λ f. f.0) fields) (map (λ x. x.head) methods)) m
    (all_marked (map (λ f. f.1) fields ++ map (λ x. x.body) methods))

-- one node, with the shapes of the terms below it
abbrev pub term_step : open_term.Term-F Marked MarkedMethod → Marked
term_step (open_term.Loc n m) = marked (Loc n) (mark_shape m) no_marked
term_step (open_term.Hole m) = marked Hole (mark_shape m) no_marked
term_step (open_term.Var x m) = marked (Var x) (mark_shape m) no_marked
term_step (open_term.Number n m) = marked (Number n) (mark_shape m) no_marked
term_step (open_term.Make fields methods m) =
    make_shape (mark_shape m) (map (λ f. (f.0.text, f.1)) fields.items) methods.items
term_step (open_term.Get a l m) = marked (Get l.text) (mark_shape m) (one_marked a.value)
term_step (open_term.Put a l b m) = marked (Put l.text) (mark_shape m) (two_marked a.value b.value)
term_step (open_term.Call a l ts m) = marked (Call l.text) (mark_shape m) (and_marked a.value (all_marked ts.items))
term_step (open_term.Clone a m) = marked Clone (mark_shape m) (one_marked a.value)
term_step (open_term.Active a l m) = marked (Active (option_map (λ x. x.text) l)) (mark_shape m) (one_marked a.value)
term_step (open_term.Serve ls m) = marked (Serve (map (λ l. l.text) ls.items)) (mark_shape m) no_marked
term_step (open_term.Let x a b m) = marked (Let x) (mark_shape m) (two_marked a.value b.value)
term_step (open_term.Steps ts m) = marked Steps (mark_shape m) (all_marked ts.items)
term_step (open_term.If a b c m) = marked If (mark_shape m) (and_marked a.value (two_marked b.value c.value))
term_step (open_term.Repeat a m) = marked Repeat (mark_shape m) (one_marked a.value)
term_step (open_term.Operate s a b m) = marked (Operate (sign_shape s)) (mark_shape m) (two_marked a.value b.value)
term_step (open_term.Print a m) = marked Print (mark_shape m) (one_marked a.value)
term_step (open_term.Echo x m) = marked (Echo x) (mark_shape m) no_marked
term_step (open_term.Group ts m) = marked term.Group (mark_shape m) (all_marked ts.items)
term_step (open_term.Scatter a l b m) = marked (Scatter l.text) (mark_shape m) (two_marked a.value b.value)
term_step (open_term.Size a m) = marked Size (mark_shape m) (one_marked a.value)
term_step (open_term.Member a b m) = marked Member (mark_shape m) (two_marked a.value b.value)
term_step (open_term.WaitAll a m) = marked WaitAll (mark_shape m) (one_marked a.value)
term_step (open_term.Pending ls m) = marked (Pending (map (λ l. l.text) ls.items)) (mark_shape m) no_marked

-- a term with its marks
abbrev pub marked_of : Term → Marked
marked_of = fold-Term Marked MarkedMethod term_step method_step

-- a method with its marks
abbrev pub method_of : Method → MarkedMethod
method_of = fold-Method Marked MarkedMethod term_step method_step

-- a field's label, and its term with its marks
abbrev pub field_of : Label × Term → Text × Marked
field_of f = (f.0.text, marked_of f.1)

-- a term without them
abbrev pub tree_of : Term → Tree
tree_of t = plain (marked_of t)

-- a method of a store, whose marks are forgotten
abbrev pub stored_method : Method → MethodShape
stored_method m = let x = method_of m in record { head = x.head; body = plain x.body }

-- the name of a future
abbrev pub future_shape : FutureName → FutureShape
future_shape f = record { by = f.by; index = f.index }

-- a fault
abbrev pub fault_shape : Fault → FaultShape
fault_shape fault.NoField = contraction.NoField
fault_shape fault.NoMethod = contraction.NoMethod
fault_shape fault.NotObject = contraction.NotObject
fault_shape fault.NotNumber = contraction.NotNumber
fault_shape fault.NotGroup = contraction.NotGroup
fault_shape fault.BadMember = contraction.BadMember
fault_shape fault.ActiveField = contraction.ActiveField
fault_shape fault.Overflow = contraction.Overflow
fault_shape fault.ZeroDivisor = contraction.ZeroDivisor

-- a status
abbrev pub status_shape : Status → StatusShape
status_shape status.Done = intent.Done
status_shape status.Serving = intent.Serving
status_shape status.Running = intent.Running
status_shape (status.Awaits f) = intent.Awaits (future_shape f)
status_shape (status.Faulted f) = intent.Faulted (fault_shape f)

-- a verdict
abbrev pub verdict_shape : Verdict → VerdictShape
verdict_shape verdict.End = verdicts.End
verdict_shape verdict.Blocked = verdicts.Blocked
verdict_shape verdict.Budget = verdicts.Budget

-- a line of output
abbrev pub line_shape : Line → LineShape
line_shape (line.Number n) = NumberLine n
line_shape (line.Text text) = TextLine text

-- an entry of a log
abbrev pub reception_shape : Reception → ReceptionShape
reception_shape (reception.From n) = model.From n
reception_shape reception.Poll = model.Poll

-- an activity at the end of a run
abbrev pub activity_shape : ActivityReport → ActivityReportShape
activity_shape a = record {
  name = a.name;
  count = a.count;
  status = status_shape a.status;
  senders = map reception_shape a.senders.items;
  lines = map line_shape a.lines.items;
}

-- the end of a run
abbrev pub outcome_shape : Outcome → OutcomeShape
outcome_shape o = record { verdict = verdict_shape o.verdict; activities = map activity_shape o.activities.items }

-- for each activity its log
abbrev pub lists_shape : Lists → ListsShape
lists_shape l = map (λ x. (x.0, map reception_shape x.1.items)) l.entries.items

-- for each activity its count
abbrev pub counts_shape : Counts → CountsShape
counts_shape c = c.entries.items

-- what a policy chooses
abbrev pub choice_shape : Choice → ChoiceShape
choice_shape choice.Forward = history.Forward
choice_shape choice.FromHome = history.FromHome
choice_shape choice.Leave = history.Leave

-- a delivery
abbrev pub delivery_shape : Delivery → DeliveryShape
delivery_shape (delivery.Edge f from to) = history.Edge (future_shape f) from to
delivery_shape (delivery.Need f to place) = history.Need (future_shape f) to place

-- an entry of a journal
abbrev pub entry_shape : Entry → EntryShape
entry_shape (entry.Lent k) = history.Lent k
entry_shape (entry.Committed k r) = history.Committed k r
entry_shape (entry.Delivered d) = history.Delivered (delivery_shape d.value)

-- what began so, from this configuration where there is one, with these entries since
abbrev pub history_of : Start → Option FirstShape → List Entry → HistoryShape
history_of start first entries = record {
  program = tree_of start.program.root;
  first = first;
  budget = start.budget;
  entries = map entry_shape entries;
}

-- a request that an activity received, as services see it
abbrev pub arrival_shape : Arrival → ArrivalShape
arrival_shape a = record { sender = a.sender; label = a.label.text }

-- a set of labels
abbrev pub labels_shape : Labels → List Text
labels_shape ls = map (λ l. l.text) ls.items.items

-- what services of an activity could take, and asked for
abbrev pub service_entry_shape : ServiceEntry → ServiceEntryShape
service_entry_shape e = record {
  name = e.name;
  arrivals = map arrival_shape e.arrivals.items.items;
  polled = e.polled;
  sets = map labels_shape e.sets.items.items;
}

-- so for each activity
abbrev pub services_shape : Services → ServicesShape
services_shape s = map service_entry_shape s.entries.items
