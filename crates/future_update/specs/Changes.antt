-- What the calls make of the holders of futures, beside the events of the definitions.
use Rattle.std.specs.Prelude.{true, false}
use Rattle.asp_model.specs.Names.{Name, FutureShape}
use Rattle.def_journals.specs.Edges.{HoldersShape, Fills, after_event, has_filled, with_received}

-- a future is filled, if it was not before
abbrev pub once_filled : FutureShape → HoldersShape → HoldersShape
once_filled f h = elim (has_filled f h.filled) [ true ↦ h | false ↦ after_event (Fills f) h ]

-- an activity has received the value of a future
abbrev pub once_received : FutureShape → Name → HoldersShape → HoldersShape
once_received f n h = record h { received = with_received f n h.received }
