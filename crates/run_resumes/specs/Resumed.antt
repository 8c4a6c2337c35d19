-- The end of a run that went on.
use Rattle.std.specs.Prelude.{◌≡◌, ◌+◌, ℕ, List, Some}
use Rattle.asp_model.specs.History.{EntryShape, FirstShape, HistoryShape}
use Rattle.asp_model.specs.Outcome.{outcome_of}
use Rattle.asp_model.specs.Shapes.{outcome_shape}
use Rattle.asp_model.specs.Term.{Tree}
use Rattle.def_journals.specs.Journals.{RunShape, run_of}
use Rattle.def_paths.specs.Outcomes.{whole_outcome_of}
use Rattle.law_journals.specs.Budgets.{spent_in}
use Rattle.law_core.specs.Outcomes.{IsBudgeted}
use Rattle.law_frozen.specs.Frozen.{thawed_first}
use Rattle.law_checkpoints.specs.Resumed.{AreOneRun}
use Rattle.law_checkpoints.specs.Saved.{frozen_at}
use Rattle.run_ends.specs.declared.ends.RunEnd.{RunEnd}
use Rattle.run_ends.specs.Ends.{IsEndOf}

-- entries since a program's run went on from this configuration, with this budget
abbrev pub history_since : Tree → FirstShape → ℕ → List EntryShape → HistoryShape
history_since program x budget entries =
    record { program = program; first = Some x; budget = budget; entries = entries }

-- The end of a lawful journal's run that went on from this configuration. Its counts begin with those that were there:
-- they keep within their sum and the budget, and sum to that where the budget ran out.
pub record IsResumedEnd (program : Tree) (x : FirstShape) (budget : ℕ) (r : RunEnd) : Type 0 where
  pub journal : List EntryShape
  pub run : RunShape
  pub lawful : run_of (history_since program x budget journal) ≡ Some run
  pub end : IsEndOf r (whole_outcome_of run.configuration)
  pub outcome : outcome_shape r.outcome ≡ outcome_of run.configuration
  pub budgeted : IsBudgeted (spent_in x.configuration + budget) (outcome_of run.configuration)

-- The end of a run that went on from where a run of the program was saved: both are one run, so the report is that of a
-- replay of the program from its start.
pub record IsEndOfOneRun (program : Tree) (x : FirstShape) (budget : ℕ) (r : RunEnd) : Type 0 where
  pub end : IsResumedEnd program (thawed_first (frozen_at x)) budget r
  pub one : AreOneRun program x budget end.run
