-- The end of a run.
use Rattle.std.specs.Prelude.{◌≡◌, ℕ, List, [], Some}
use Rattle.asp_model.specs.History.{EntryShape, HistoryShape, program_history}
use Rattle.asp_model.specs.Outcome.{outcome_of}
use Rattle.asp_model.specs.Shapes.{outcome_shape}
use Rattle.asp_model.specs.Term.{Tree}
use Rattle.def_journals.specs.Journals.{RunShape, run_of}
use Rattle.def_paths.specs.Outcomes.{whole_outcome_of}
use Rattle.code_table.specs.declared.code.Node.{Node}
use Rattle.run_ends.specs.declared.ends.RunEnd.{RunEnd}
use Rattle.run_ends.specs.Ends.{IsEndOf}
use Rattle.law_journals.specs.Budgets.{most_in}
use Rattle.law_core.specs.Outcomes.{IsBudgeted, IsReplayedEnd}
use Rattle.core_state.specs.declared.state.CoreState.{CoreState}
use Rattle.core_state.specs.Cores.{IsCore}

-- a core in which nobody is out
pub record IsHome (h : HistoryShape) (code : List Node) (x : CoreState) (s : RunShape) : Type 0 where
  pub core : IsCore h code x s
  pub back : s.out ≡ []

abbrev pub IsSomeHome : CoreState → Type 0
IsSomeHome x = (h : HistoryShape) × (code : List Node) × (s : RunShape) × IsHome h code x s

-- the end of the run of a history, wherever that began: its counts keep within what was counted there and the budget,
-- and sum to that where the budget ran out
pub record IsEndOfHistory (h : HistoryShape) (r : RunEnd) : Type 0 where
  pub run : RunShape
  pub lawful : run_of h ≡ Some run
  pub end : IsEndOf r (whole_outcome_of run.configuration)
  pub outcome : outcome_shape r.outcome ≡ outcome_of run.configuration
  pub budgeted : IsBudgeted (most_in h) (outcome_of run.configuration)

-- the end of a lawful journal's run, which agrees with its replay: its counts keep within the budget, and sum
-- to it where that ran out
pub record IsEndOfRun (program : Tree) (budget : ℕ) (r : RunEnd) : Type 0 where
  pub journal : List EntryShape
  pub run : RunShape
  pub lawful : run_of (program_history program budget journal) ≡ Some run
  pub end : IsEndOf r (whole_outcome_of run.configuration)
  pub outcome : outcome_shape r.outcome ≡ outcome_of run.configuration
  pub replayed : IsReplayedEnd program run.configuration
  pub budgeted : IsBudgeted budget (outcome_of run.configuration)
