-- Ended runs as data, and what a search that answers one says.
use Rattle.std.specs.Prelude.{◌≤◌, List, Option, Some, None}
use Rattle.asp_model.specs.declared.limits.TheConstants.{MOST_REDUCTIONS}
use Rattle.asp_model.specs.Term.{Tree}
use Rattle.asp_model.specs.Step.{ListsShape}
use Rattle.asp_model.specs.Replay.{total}
use Rattle.asp_model.specs.Shapes.{lists_shape, counts_shape}
use Rattle.law_families.specs.Families.{RunLogs, Has, IsEndedRun, AreBeginnings}
use Rattle.outcome_search.specs.declared.runs.EndedRun.{EndedRun}

-- the logs and counts of a run that ended
abbrev pub run_logs : EndedRun → RunLogs
run_logs s = (lists_shape s.lists, counts_shape s.counts)

-- an ended run of the program, of no more reductions than can be replayed
abbrev pub IsReplayableEnd : Tree → RunLogs → Type 0
IsReplayableEnd program x = IsEndedRun program x × (total x.1 ≤ MOST_REDUCTIONS)

-- each of these is one
abbrev pub AreReplayableEnds : Tree → List RunLogs → Type 0
AreReplayableEnds program ends = (x : RunLogs) → Has ends x → IsReplayableEnd program x

-- an end; none says nothing
abbrev pub IsEnd : Tree → Option EndedRun → Type 0
IsEnd program None = Unit {0}
IsEnd program (Some s) = IsReplayableEnd program (run_logs s)

-- an end whose logs begin with these
abbrev pub IsEndFrom : Tree → ListsShape → Option EndedRun → Type 0
IsEndFrom program lists None = Unit {0}
IsEndFrom program lists (Some s) = IsReplayableEnd program (run_logs s) × AreBeginnings lists (run_logs s).0
