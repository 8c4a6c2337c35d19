-- The entries of lawful journals have lines.
use Rattle.std.specs.Prelude.{◌≡◌, ◌≤◌, ℕ, true, List, Some}
use Rattle.std.specs.List.{list_all}
use Rattle.asp_model.specs.declared.limits.TheConstants.{MOST_REDUCTIONS}
use Rattle.asp_model.specs.Term.{Tree}
use Rattle.asp_model.specs.History.{EntryShape, program_history}
use Rattle.def_journals.specs.Journals.{RunShape, run_of}
use Rattle.trace_text.specs.Traces.{has_line, has_numbers}

-- within the most reductions, all that a lawful journal names has a name that can be written
abbrev pub JournalsHaveLines : Type 0
JournalsHaveLines = (program : Tree) (budget : ℕ) (entries : List EntryShape) (s : RunShape)
    → run_of (program_history program budget entries) ≡ Some s → budget ≤ MOST_REDUCTIONS
    → list_all has_numbers entries ≡ true → list_all has_line entries ≡ true
