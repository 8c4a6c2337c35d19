-- What a complete family of ended runs says of each run of its program, and what an offer is.
use Rattle.std.specs.Prelude.{◌≡◌, ◌≢◌, ◌≤◌, suc, List, [], ◌∷◌, ◌++◌, Some, None}
use Rattle.asp_model.specs.Names.{Name}
use Rattle.asp_model.specs.Term.{Tree}
use Rattle.asp_model.specs.Configuration.{RequestShape, ReceptionShape, From, Poll, Configuration, start, log_of}
use Rattle.asp_model.specs.Intent.{Effect, Acts}
use Rattle.asp_model.specs.Step.{ListsShape, intent_in, step}
use Rattle.asp_model.specs.Status.{IsStuck}
use Rattle.asp_model.specs.Replay.{CountsShape, lists_of, counts_of, log_in, total, replay, Fits}
use Rattle.law_steps.specs.Reached.{IsReached, RunsTo}
use Rattle.law_steps.specs.Steps.{IsPoll}
use Rattle.law_steps.specs.Joins.{IsOneSenderEnd}
use Rattle.law_families.specs.Families.{RunLogs, Has, IsComplete}

-- each run of the program, at each point, leads on to one of these ends
abbrev pub RunsLeadToEnds : Type 0
RunsLeadToEnds = (program : Tree) (ends : List RunLogs) (names : List Name) (c : Configuration)
    → IsComplete program ends → RunsTo None (start program) names c
    → (x : RunLogs) × Has ends x × ((more : List Name) × RunsTo None c more (replay program x.0 x.1))

-- and each run that is stuck is one of them
abbrev pub StuckRunsAreEnds : Type 0
StuckRunsAreEnds = (program : Tree) (ends : List RunLogs) (names : List Name) (c : Configuration)
    → IsComplete program ends → RunsTo None (start program) names c → IsStuck c
    → Has ends (lists_of c, counts_of c)

-- so no run takes more reductions than the longest of them
abbrev pub RunsEnd : Type 0
RunsEnd = (program : Tree) (ends : List RunLogs) (names : List Name) (c : Configuration)
    → IsComplete program ends → RunsTo None (start program) names c
    → (x : RunLogs) × Has ends x × (total (counts_of c) ≤ total x.1)

-- one of the ends has as many reductions as these counts, and more where their run can go on
abbrev pub IsWithinLongest : List RunLogs → Tree → ListsShape → CountsShape → Type 0
IsWithinLongest ends program lists counts = (x : RunLogs) × Has ends x × (total counts ≤ total x.1)
    × ((IsStuck (replay program lists counts) → ⊥) → suc (total counts) ≤ total x.1)

-- of all lists and counts that fit the program, as those of each report do: where nobody can step, they are an end
abbrev pub FittingAreWithin : Type 0
FittingAreWithin = (program : Tree) (ends : List RunLogs) (lists : ListsShape) (counts : CountsShape)
    → IsComplete program ends → Fits program lists counts
    → IsWithinLongest ends program lists counts
    × (IsStuck (replay program lists counts) → Has ends (lists, counts))

-- where each log of a stuck run is narrow, of one sender and without a poll, that run alone is complete
abbrev pub OneSenderIsComplete : Type 0
OneSenderIsComplete = (program : Tree) (c : Configuration)
    → IsOneSenderEnd program c → IsComplete program ((lists_of c, counts_of c) ∷ [])

-- the activity intends to send to this one; or it is this one, and intends to poll
abbrev pub IntendsToLog : Configuration → Name → Name → ReceptionShape → Type 0
IntendsToLog c n q (From m) = (m ≡ n) × ((e : Effect) × (intent_in c n ≡ Acts e)
    × ((r : RequestShape) × (e.sent ≡ Some (q, r))))
IntendsToLog c n q Poll = (q ≡ n) × ((e : Effect) × (intent_in c n ≡ Acts e) × IsPoll n e)

-- whoever enters something in a log intends it, and its step leaves each other log as it is
abbrev pub OffersShow : Type 0
OffersShow = (program : Tree) (c d : Configuration) (n q : Name) (entry : ReceptionShape)
    → IsReached program c → step None c n ≡ Some d → log_of d q ≡ log_of c q ++ entry ∷ []
    → IntendsToLog c n q entry
    × ((m : Name) → m ≢ q → log_in (lists_of d) m ≡ log_in (lists_of c) m)
    × (log_in (lists_of d) q ≡ log_in (lists_of c) q ++ entry ∷ [])
