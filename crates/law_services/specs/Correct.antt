-- Two replays between which no service can tell end alike.
use Rattle.std.specs.Prelude.{◌≡◌, [], Option, Some, None, map}
use Rattle.std.specs.FinMap.{find}
use Rattle.asp_model.specs.Names.{Name, name_cmp}
use Rattle.asp_model.specs.Term.{Tree}
use Rattle.asp_model.specs.Configuration.{Activity, Configuration}
use Rattle.asp_model.specs.Step.{ListsShape}
use Rattle.asp_model.specs.Status.{IsStuck, status_of}
use Rattle.asp_model.specs.Replay.{CountsShape, replay}
use Rattle.def_paths.specs.Outcomes.{EndShape, WholeOutcome, whole_outcome_of}
use Rattle.law_services.specs.Services.{AreServedAlike}

-- an activity without the numbers of the requests that it served
abbrev pub bare : Activity → Activity
bare a = record a { served = [] }

-- so where there is one
abbrev pub bare_of : Option Activity → Option Activity
bare_of None = None
bare_of (Some a) = Some (bare a)

-- two ends are equal, cell by cell, but for logs and the numbers of what was served
pub record EndAlike (c d : Configuration) : Type 0 where
  pub activities : (n : Name) → bare_of (find name_cmp n c.activities) ≡ bare_of (find name_cmp n d.activities)
  pub futures : c.futures ≡ d.futures
  pub statuses : (n : Name) → status_of c n ≡ status_of d n

-- where both replays are stuck, and no service can tell between them, they end alike
abbrev pub ServedAlikeEndAlike : Type 0
ServedAlikeEndAlike = (program : Tree) (lists : ListsShape) (counts : CountsShape)
    (others : ListsShape) (other_counts : CountsShape)
    → IsStuck (replay program lists counts) → IsStuck (replay program others other_counts)
    → AreServedAlike program lists counts others other_counts
    → EndAlike (replay program lists counts) (replay program others other_counts)

-- what an activity is at the end, without its log
abbrev pub unlogged_end : EndShape → EndShape
unlogged_end e = record e { report = record e.report { senders = [] } }

-- an outcome with every state, without the logs
abbrev pub unlogged : WholeOutcome → WholeOutcome
unlogged o = record o { ends = map unlogged_end o.ends }

-- and then their outcomes, with every state, are equal but for the logs
abbrev pub ServedAlikeShowAlike : Type 0
ServedAlikeShowAlike = (program : Tree) (lists : ListsShape) (counts : CountsShape)
    (others : ListsShape) (other_counts : CountsShape)
    → IsStuck (replay program lists counts) → IsStuck (replay program others other_counts)
    → AreServedAlike program lists counts others other_counts
    → unlogged (whole_outcome_of (replay program lists counts))
    ≡ unlogged (whole_outcome_of (replay program others other_counts))
