-- A core is the run of its journal.
use Rattle.std.specs.Prelude.{◌≡◌, ℕ, List, [], false, length}
use Rattle.std.specs.Arc.{arc_value}
use Rattle.asp_model.specs.History.{EntryShape, HistoryShape}
use Rattle.asp_model.specs.Names.{FutureShape, Name}
use Rattle.asp_model.specs.Term.{locations}
use Rattle.def_journals.specs.Edges.{homes_in}
use Rattle.def_journals.specs.Journals.{RunShape, first_in}
use Rattle.code_table.specs.declared.code.Node.{Node}
use Rattle.core_seats.specs.Seats.{names_in, seats_in}
use Rattle.core_state.specs.Journal.{entries_in}
use Rattle.core_edges.specs.Labels.{AreByLabels}
use Rattle.core_state.specs.Cores.{program_of}
use Rattle.asp_core.specs.declared.cores.Core.{Core}
use Rattle.asp_core.specs.Runs.{Stand}

module _ {P : Type 0} where
  abbrev pub code_of : Core P → List Node
  code_of x = arc_value x.code

  abbrev pub entries_of : Core P → List EntryShape
  entries_of x = entries_in x.state.journal

  -- its program, where its run began if it goes on, its budget, and its journal
  abbrev pub history_of : Core P → HistoryShape
  history_of x = record {
    program = program_of (code_of x);
    first = x.first.shape;
    budget = x.budget;
    entries = entries_of x;
  }

  -- the homes of futures where its run began: none, if it began with its program
  abbrev pub first_homes : Core P → List (FutureShape × Name)
  first_homes x = homes_in (first_in (history_of x)).configuration

  abbrev pub names_of : Core P → List Name
  names_of x = names_in x.state.seats

  abbrev pub activities_of : Core P → ℕ
  activities_of x = length (seats_in x.state.seats)

  -- it is not spent, and stands for this run of its history, in which each future that began since has the plan's
  -- strategy for the label of its request
  pub record IsRun (x : Core P) (s : RunShape) : Type 0 where
    pub fresh : x.spent ≡ false
    -- its program has no places, as all that was read
    pub bare : locations (history_of x).program ≡ []
    pub stand : Stand (history_of x) (code_of x) s x.state x.edges.holders
    pub labels : AreByLabels (first_homes x) s.configuration x.edges

  -- so each core does that is not spent
  abbrev pub IsKept : Core P → Type 0
  IsKept x = x.spent ≡ false → (s : RunShape) × IsRun x s

  -- nobody is out by its run
  abbrev pub IsHome : Core P → Type 0
  IsHome x = (s : RunShape) → IsRun x s → s.out ≡ []
