-- Runs and their replays, under lists and counts.
use Rattle.std.specs.Prelude.{◌≡◌, ◌⊎◌, ◌≤◌, ℕ, true, List, Option, Some, None, length}
use Rattle.std.specs.List.{starts_with}
use Rattle.asp_model.specs.Names.{Name}
use Rattle.asp_model.specs.Term.{Tree}
use Rattle.asp_model.specs.Configuration.{Configuration, start, log_of}
use Rattle.asp_model.specs.Step.{ListsShape, same_reception}
use Rattle.asp_model.specs.Status.{IsStuck}
use Rattle.asp_model.specs.Replay.{CountsShape, total, lists_of, counts_of, log_in, count_in, least_step, plain_run, replay, Fits}
use Rattle.law_steps.specs.Reached.{IsReached, RunsTo}

-- the own lists have each activity's log
abbrev pub OwnListsShow : Type 0
OwnListsShow = (program : Tree) (c : Configuration) (m : Name) → IsReached program c
    → log_in (lists_of c) m ≡ log_of c m

-- a run without lists is one under the lists that it leaves
abbrev pub RunsUnderOwnLists : Type 0
RunsUnderOwnLists = (program : Tree) (names : List Name) (c : Configuration)
    → RunsTo None (start program) names c → RunsTo (Some (lists_of c)) (start program) names c

-- under lists, each activity's log is a beginning of its list
abbrev pub ListedRunsStayWithin : Type 0
ListedRunsStayWithin = (program : Tree) (lists : ListsShape) (names : List Name) (c : Configuration)
    → RunsTo (Some lists) (start program) names c → (m : Name)
    → starts_with same_reception (log_in lists m) (log_in (lists_of c) m) ≡ true

-- where a run under lists leads, the replay under them and its counts leads
abbrev pub ReplaysLead : Type 0
ReplaysLead = (program : Tree) (lists : ListsShape) (names : List Name) (c : Configuration)
    → RunsTo (Some lists) (start program) names c → replay program lists (counts_of c) ≡ c

-- a replay is a run under its lists
abbrev pub ReplaysAreRuns : Type 0
ReplaysAreRuns = (program : Tree) (lists : ListsShape) (counts : CountsShape)
    → (names : List Name) × RunsTo (Some lists) (start program) names (replay program lists counts)

-- a replay has ended: nobody below its count can step
abbrev pub ReplaysRest : Type 0
ReplaysRest = (program : Tree) (lists : ListsShape) (counts : CountsShape)
    → let c : Configuration = replay program lists counts in
    least_step (Some lists) (count_in counts) c c.activities ≡ None

-- the lists and counts that a configuration shows fit, and their replay gives it
abbrev pub IsItsReplay : Tree → Configuration → Type 0
IsItsReplay program c =
    Fits program (lists_of c) (counts_of c) × (replay program (lists_of c) (counts_of c) ≡ c)

-- a run without lists, in any order, ends in the replay of its lists and counts
abbrev pub RunsReplay : Type 0
RunsReplay = (program : Tree) (names : List Name) (c : Configuration)
    → RunsTo None (start program) names c → IsItsReplay program c

-- the run of one thread is the replay of its lists and counts
abbrev pub PlainRunsReplay : Type 0
PlainRunsReplay = (n : ℕ) (program : Tree) → IsItsReplay program (plain_run n program)

-- the run of one thread is a run without lists
abbrev pub PlainRunsAreRuns : Type 0
PlainRunsAreRuns = (n : ℕ) (program : Tree)
    → (names : List Name) × RunsTo None (start program) names (plain_run n program)

-- a run under the lists ends with these lists and counts
abbrev pub EndsWith : Tree → ListsShape → CountsShape → Type 0
EndsWith program lists counts = (names : List Name) × (c : Configuration)
    × RunsTo (Some lists) (start program) names c × (lists_of c ≡ lists) × (counts_of c ≡ counts)

-- lists and counts fit exactly where a run ends with them
abbrev pub FitsWhereRun : Type 0
FitsWhereRun = (program : Tree) (lists : ListsShape) (counts : CountsShape)
    → (Fits program lists counts → EndsWith program lists counts)
    × (EndsWith program lists counts → Fits program lists counts)

-- the counts sum to the number of steps
abbrev pub CountsSum : Type 0
CountsSum = (program : Tree) (lists : Option ListsShape) (names : List Name) (c : Configuration)
    → RunsTo lists (start program) names c → total (counts_of c) ≡ length names

-- the run of one thread takes at most so many steps, and just so many where it is not stuck
abbrev pub PlainRunsSpend : Type 0
PlainRunsSpend = (n : ℕ) (program : Tree)
    → let c : Configuration = plain_run n program in
    (total (counts_of c) ≤ n) × (IsStuck c ⊎ (total (counts_of c) ≡ n))

-- two runs that leave equal lists and counts end in one configuration
abbrev pub RunsAgree : Type 0
RunsAgree = (program : Tree) (names others : List Name) (c d : Configuration)
    → RunsTo None (start program) names c → RunsTo None (start program) others d
    → lists_of c ≡ lists_of d → counts_of c ≡ counts_of d → c ≡ d
