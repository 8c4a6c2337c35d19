-- What a run is that is cut back.
use Rattle.std.specs.Prelude.{◌≡◌, ◌<◌, ◌⊎◌, ℕ, None}
use Rattle.std.specs.FinMap.{find}
use Rattle.asp_model.specs.Names.{Name, name_cmp}
use Rattle.asp_model.specs.Term.{Tree}
use Rattle.asp_model.specs.Step.{ListsShape}
use Rattle.asp_model.specs.Replay.{CountsShape, Fits, IsLeastDiverging, count_in, replay}
use Rattle.asp_model.specs.Outcome.{OutcomeShape, counts_in, lists_in, outcome_of}
use Rattle.law_families.specs.Families.{RunLogs}
use Rattle.law_cuts.specs.Cuts.{IsAtMost, IsLeastCut}
use Rattle.replay_one.specs.declared.replays.ReplayStop.{ReplayStop}
use Rattle.replay_one.specs.declared.replays.ReplayStop.TheVariants as replays
use Rattle.run_waits.specs.declared.cuts.CutStop.{CutStop}
use Rattle.run_waits.specs.declared.cuts.CutStop.TheVariants as stop

-- the logs and counts that an outcome shows
abbrev pub shown : OutcomeShape → RunLogs
shown o = (lists_in o, counts_in o)

-- the outcome is that of the least cut at which an activity has made so many reductions: its logs and counts
-- fit, and it is that of the replay under them
pub record IsCutBack (program : Tree) (lists : ListsShape) (counts : CountsShape) (n : Name) (k : ℕ) (o : OutcomeShape)
    : Type 0 where
  pub least : IsLeastCut program lists n k (shown o)
  pub within : IsAtMost (shown o) (lists, counts)
  pub replayed : outcome_of (replay program (lists_in o) (counts_in o)) ≡ o

-- the activity has no log, or has not made so many reductions
abbrev pub IsBeyond : ListsShape → CountsShape → Name → ℕ → Type 0
IsBeyond lists counts n k = (find name_cmp n lists ≡ None) ⊎ (count_in counts n < k)

-- logs and counts do not fit, first at this activity; or the activity did not come so far; want of memory tells nothing
abbrev pub IsCutStop : Tree → ListsShape → CountsShape → Name → ℕ → CutStop → Type 0
IsCutStop program lists counts n k (stop.Diverged m) = IsLeastDiverging program lists counts m × (Fits program lists counts → ⊥)
IsCutStop program lists counts n k stop.Beyond = IsBeyond lists counts n k
IsCutStop program lists counts n k stop.Memory = Unit {0}

-- the same stop
abbrev pub IsStopOf : ReplayStop → CutStop → Type 0
IsStopOf (replays.Diverged n) (stop.Diverged m) = m ≡ n
IsStopOf replays.Memory stop.Memory = Unit {0}
IsStopOf x y = ⊥
