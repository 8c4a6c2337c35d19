-- What the outcome of a run says.
use Rattle.std.specs.Prelude.{◌≡◌, ℕ}
use Rattle.asp_model.specs.Term.{Tree}
use Rattle.asp_model.specs.Status.{Budget}
use Rattle.asp_model.specs.Step.{ListsShape}
use Rattle.asp_model.specs.Replay.{CountsShape, Fits, IsLeastDiverging, replay, total}
use Rattle.asp_model.specs.Outcome.{OutcomeShape, lists_in, counts_in, outcome_of}
use Rattle.replay_one.specs.declared.replays.ReplayStop.{ReplayStop}
use Rattle.replay_one.specs.declared.replays.ReplayStop.TheVariants as stop

-- the outcome is that of the replay under its own logs and counts, which fit
pub record IsReplayed (program : Tree) (o : OutcomeShape) : Type 0 where
  pub fits : Fits program (lists_in o) (counts_in o)
  pub outcome : outcome_of (replay program (lists_in o) (counts_in o)) ≡ o

-- the verdict `Budget` comes only where as many reductions were made
abbrev pub IsSpent : ℕ → OutcomeShape → Type 0
IsSpent budget o = o.verdict ≡ Budget → total (counts_in o) ≡ budget

-- the replay leaves something else of this activity than lists and counts say, of none with a lesser name,
-- and they do not fit; want of memory tells nothing
abbrev pub IsStop : Tree → ListsShape → CountsShape → ReplayStop → Type 0
IsStop program lists counts (stop.Diverged n) = IsLeastDiverging program lists counts n × (Fits program lists counts → ⊥)
IsStop program lists counts stop.Memory = Unit {0}
