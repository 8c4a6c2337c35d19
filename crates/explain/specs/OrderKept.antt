-- What is kept: for private functions alone.
use Rattle.std.specs.Prelude.{◌≡◌, ℕ, List, Option, Some, None, map, option_map, slice_get}
use Rattle.std.specs.BTreeMap.{get}
use Rattle.std.specs.Global.{Vec}
use Rattle.std.specs.FinMap.{find}
use Rattle.asp_model.specs.Names.{Name, Text, name_cmp}
use Rattle.asp_model.specs.Configuration.{ReceptionShape, From, Poll}
use Rattle.asp_model.specs.Shapes.{reception_shape}
use Rattle.asp_model.specs.declared.outcome.Reception.{Reception}
use Rattle.asp_model.specs.Step.{ListsShape}
use Rattle.serve_rules.specs.Labels.{label_text}
use Rattle.replay_parts.specs.Notes.{NoteShape}
use Rattle.explain.specs.declared.differences.logs.Numbers.{Numbers}
use Rattle.explain.specs.declared.differences.order.Entry.{Entry}
use Rattle.explain.specs.declared.differences.order.Order.{Order}
use Rattle.explain.specs.declared.differences.places.Places.{Places}
use Rattle.explain.specs.Orders.{EntryShape, order_of}

abbrev pub entry_shape : Entry → EntryShape
entry_shape e = record { to = e.to; noted = reception_shape e.noted; label = option_map label_text e.label }

abbrev pub request_of : (to by : Name) → Text → EntryShape
request_of to by label = record { to = to; noted = From by; label = Some label }

abbrev pub poll_of : Name → EntryShape
poll_of by = record { to = by; noted = Poll; label = None }

-- it keeps what the notes enter
abbrev pub Tells : Order → List NoteShape → Type 0
Tells o xs = map entry_shape o.entries.items ≡ order_of xs

-- Places

abbrev pub or_zero : Option ℕ → ℕ
or_zero None = 0
or_zero (Some k) = k

abbrev pub count_at : Places → Name → ℕ
count_at p n = or_zero (get name_cmp p.counts n)

-- Numbers of logs

-- the log of a name
abbrev pub log_entry : Name × Vec Reception → Name × List ReceptionShape
log_entry x = (x.0, map reception_shape x.1.items)

-- the log of a number
abbrev pub log_numbered : ListsShape → Option ℕ → Option (List ReceptionShape)
log_numbered lists None = None
log_numbered lists (Some k) = option_map (λ x. x.1) (slice_get lists k)

-- each log stands at its number
abbrev pub AreNumbered : ListsShape → Numbers → Type 0
AreNumbered lists m = (n : Name) → log_numbered lists (get name_cmp m.numbers n) ≡ find name_cmp n lists
