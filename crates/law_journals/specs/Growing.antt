-- A history with one entry more.
use Rattle.std.specs.Prelude.{◌≡◌, Some}
use Rattle.asp_model.specs.History.{EntryShape, HistoryShape, with_entry}
use Rattle.def_journals.specs.Edges.{after_events}
use Rattle.def_journals.specs.Journals.{RunShape, entered, run_of}
use Rattle.def_journals.specs.Passing.{entry_events, holders_of}

-- its run is that of the entry
abbrev pub EntriesGoOn : Type 0
EntriesGoOn = (h : HistoryShape) (x : EntryShape) (s : RunShape)
    → run_of h ≡ Some s → run_of (with_entry h x) ≡ entered x s

-- and its holders are those after the events of the entry
abbrev pub HoldersGoOn : Type 0
HoldersGoOn = (h : HistoryShape) (x : EntryShape) (s : RunShape) → run_of h ≡ Some s
    → holders_of (with_entry h x) ≡ after_events (entry_events x s) (holders_of h)
