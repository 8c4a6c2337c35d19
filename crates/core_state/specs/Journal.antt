-- The entries of a journal, and its room.
use Rattle.std.specs.Prelude.{ℕ, ◌-◌, List, Option, map, vec_capacity, vec_len}
use Rattle.asp_model.specs.History.{EntryShape, FirstShape, HistoryShape}
use Rattle.asp_model.specs.Shapes.{entry_shape, history_of}
use Rattle.asp_model.specs.declared.journal.Start.{Start}
use Rattle.core_state.specs.declared.journal.Journal.{Journal}

-- oldest first
abbrev pub entries_in : Journal → List EntryShape
entries_in j = map entry_shape j.entries.items

-- how many entries more take no memory
abbrev pub room : Journal → ℕ
room j = vec_capacity j.entries - vec_len j.entries

-- what has happened since this start, or since the configuration where its run goes on
abbrev pub history_in : Start → Option FirstShape → Journal → HistoryShape
history_in start first j = history_of start first j.entries.items
