-- Writing a trace, and reading it.
use Rattle.std.specs.Prelude.{◌≡◌, true, List}
use Rattle.std.specs.List.{list_all}
use Rattle.asp_model.specs.History.{EntryShape}
use Rattle.trace_text.specs.Traces.{has_line, trace_of, read_trace, Reads}

-- a trace whose entries have lines gives its entries
abbrev pub TracesAreRead : Type 0
TracesAreRead = (entries : List EntryShape) → list_all has_line entries ≡ true → read_trace (trace_of entries) ≡ Reads entries
