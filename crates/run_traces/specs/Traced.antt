-- A run with its trace.
use Rattle.std.specs.Prelude.{◌≡◌, ℕ, List, map, string_bytes}
use Rattle.std.specs.List.{concat}
use Rattle.asp_model.specs.History.{EntryShape, program_history}
use Rattle.asp_model.specs.Outcome.{outcome_of}
use Rattle.asp_model.specs.Shapes.{outcome_shape}
use Rattle.asp_model.specs.Term.{Tree}
use Rattle.asp_core.specs.declared.cores.Core.{Core}
use Rattle.asp_core.specs.Cores.{entries_of, history_of}
use Rattle.law_core.specs.Outcomes.{IsBudgeted, IsReplayedEnd}
use Rattle.law_traces.specs.Standings.{IsEndedJournal}
use Rattle.trace_text.specs.Traces.{Reads, read_trace, trace_of}
use Rattle.run_traces.specs.declared.traced.Traced.{Traced}

-- the pieces are the trace of a lawful journal whose run has ended, so it reads as that, and the outcome is that of
-- the run, which agrees with its replay and keeps within the budget
pub record IsTracedRun (program : Tree) (budget : ℕ) (t : Traced) : Type 0 where
  pub journal : List EntryShape
  pub ended : IsEndedJournal program budget journal
  pub text : concat (map string_bytes t.pieces.items) ≡ trace_of journal
  pub read : read_trace (trace_of journal) ≡ Reads journal
  pub outcome : outcome_shape t.end.outcome ≡ outcome_of ended.run.configuration
  pub replayed : IsReplayedEnd program ended.run.configuration
  pub budgeted : IsBudgeted budget (outcome_of ended.run.configuration)

-- a core of this program and budget
abbrev pub IsOfProgram : {P : Type 0} → Tree → ℕ → Core P → Type 0
IsOfProgram program budget x = history_of x ≡ program_history program budget (entries_of x)
