-- What a list of steps leads to.
use Rattle.std.specs.Prelude.{ℕ, List, []}
use Rattle.asp_model.specs.History.{program_history}
use Rattle.asp_model.specs.Replay.{lists_of}
use Rattle.asp_model.specs.Status.{IsStuck}
use Rattle.asp_model.specs.Term.{Tree}
use Rattle.def_journals.specs.Journals.{RunShape}
use Rattle.law_steps.specs.Joins.{AreNarrow}
use Rattle.law_paths.specs.Correct.{IsAlone}
use Rattle.law_core.specs.Outcomes.{IsReplayedEnd}
use Rattle.asp_core.specs.declared.cores.Core.{Core}
use Rattle.asp_core.specs.Cores.{IsRun, history_of}
use Rattle.core_drives.specs.Steps.{Lead, StepShape, nobody}

-- the steps lead from the start to its journal, and its run agrees with the replay of its own logs and counts
pub record IsDriven {P : Type 0} (program : Tree) (budget : ℕ) (steps : List StepShape) (x : Core P) : Type 0 where
  pub leads : Lead steps nobody (program_history program budget []) (history_of x)
  pub run : RunShape
  pub is : IsRun x run
  pub replayed : IsReplayedEnd program run.configuration
  -- where nothing can step after it and each log is narrow, every lawful journal of the program stands beside it
  pub alone : IsStuck run.configuration → AreNarrow (lists_of run.configuration) → IsAlone program run.configuration
