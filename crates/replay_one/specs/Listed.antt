-- Lists and counts that a replay takes.
use Rattle.std.specs.Prelude.{◌≤◌}
use Rattle.asp_model.specs.declared.limits.TheConstants.{MOST_REDUCTIONS}
use Rattle.asp_model.specs.Step.{ListsShape}
use Rattle.asp_model.specs.Replay.{CountsShape, total}
use Rattle.law_schedules.specs.Divergence.{AreInOrder}

-- the same names in ascending order, and at most 10,000,000 reductions
pub record AreReplayable (lists : ListsShape) (counts : CountsShape) : Type 0 where
  pub ordered : AreInOrder lists counts
  pub within : total counts ≤ MOST_REDUCTIONS
