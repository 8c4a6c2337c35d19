-- Runs whose ends are complete by some classes, and what they say of each run of the program.
use Rattle.std.specs.Prelude.{◌≡◌, ℕ, List, map}
use Rattle.asp_model.specs.Names.{Text}
use Rattle.asp_model.specs.Term.{Tree}
use Rattle.asp_model.specs.Step.{ListsShape}
use Rattle.asp_model.specs.Status.{IsStuck}
use Rattle.asp_model.specs.Replay.{CountsShape, Fits, replay}
use Rattle.def_paths.specs.Outcomes.{whole_outcome_of}
use Rattle.law_services.specs.Correct.{unlogged}
use Rattle.law_families.specs.Families.{AreEnds, Has, RunLogs}
use Rattle.law_families.specs.Complete.{IsWithinLongest}
use Rattle.law_classes.specs.Families.{ClassEnd, IsComplete}

-- they have ended, and with some logs by some classes their ends are a complete family
pub record IsCompleteByClasses (program : Tree) (runs : List RunLogs) : Type 0 where
  pub ended : AreEnds program runs
  pub classes : Text → ℕ
  pub ends : List ClassEnd
  pub complete : IsComplete classes program ends
  pub last : map (λ x. x.0) ends ≡ map (λ x. replay program x.0 x.1) runs

-- the outcome of one of these runs, with every state, is equal but for the logs
abbrev pub IsAlikeWith : List RunLogs → Tree → ListsShape → CountsShape → Type 0
IsAlikeWith runs program lists counts = (x : RunLogs) × Has runs x
    × (unlogged (whole_outcome_of (replay program lists counts)) ≡ unlogged (whole_outcome_of (replay program x.0 x.1)))

-- all that fits the program, as each report does, takes no more reductions than the longest of them, and has the outcome
-- of one of them but for the logs if nobody can step
abbrev pub FittingAreAlike : Type 0
FittingAreAlike = (program : Tree) (runs : List RunLogs) (lists : ListsShape) (counts : CountsShape)
    → IsCompleteByClasses program runs → Fits program lists counts
    → IsWithinLongest runs program lists counts
    × (IsStuck (replay program lists counts) → IsAlikeWith runs program lists counts)
