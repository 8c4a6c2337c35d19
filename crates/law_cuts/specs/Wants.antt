-- Under given logs, whom an activity needs that cannot step: until that one has stepped, it cannot.
use Rattle.std.specs.Prelude.{◌≡◌, ◌≢◌, [], ◌∷◌, Option, Some, None, length}
use Rattle.std.specs.FinMap.{find}
use Rattle.asp_model.specs.Names.{Name, name_cmp}
use Rattle.asp_model.specs.Term.{Tree}
use Rattle.asp_model.specs.Configuration.{ReceptionShape, From, Poll, Configuration, log_of}
use Rattle.asp_model.specs.Intent.{StatusShape, Done, Serving, Running, Awaits, Faulted, Effect, Intent, Acts, Rests}
use Rattle.asp_model.specs.Step.{ListsShape, reception_at, intent_in, step}
use Rattle.asp_model.specs.Replay.{log_in}
use Rattle.law_steps.specs.Reached.{IsReached}
use Rattle.law_waits.specs.Waits.{waited}

-- who enters this in the log of an activity: the sender, or that activity itself
abbrev pub enterer : Name → ReceptionShape → Name
enterer m (From n) = n
enterer m Poll = m

abbrev pub enterer_of : Name → Option ReceptionShape → Option Name
enterer_of m None = None
enterer_of m (Some x) = Some (enterer m x)

-- who enters something next in the log of an activity; none where the log is used up
abbrev pub next_enterer : ListsShape → Configuration → Name → Option Name
next_enterer lists c m = enterer_of m (reception_at (log_in lists m) (length (log_of c m)))

-- the name without its last number: that of the creator
abbrev pub creator_of : Name → Name
creator_of [] = []
creator_of (k ∷ []) = []
creator_of (k ∷ j ∷ ks) = k ∷ creator_of (j ∷ ks)

-- at a `serve`, who enters something next; awaiting a future without a value, who has to answer it
abbrev pub wanted_by_status : ListsShape → Configuration → Name → StatusShape → Option Name
wanted_by_status lists c n Done = None
wanted_by_status lists c n Serving = next_enterer lists c n
wanted_by_status lists c n Running = None
wanted_by_status lists c n (Awaits f) = waited c n
wanted_by_status lists c n (Faulted fault) = None

-- where its own entry is not next in a log, who enters something there next
abbrev pub wanted_by_effect : ListsShape → Configuration → Effect → Option Name
wanted_by_effect lists c e = elim e.logged [ None ↦ None | Some x ↦ next_enterer lists c x.0 ]

abbrev pub wanted_by_intent : ListsShape → Configuration → Name → Intent → Option Name
wanted_by_intent lists c n (Acts e) = wanted_by_effect lists c e
wanted_by_intent lists c n (Rests status) = wanted_by_status lists c n status

-- whom an activity needs that cannot step; where it is not there its creator; none where it never steps again
abbrev pub wanted : ListsShape → Configuration → Name → Option Name
wanted lists c n = elim (find name_cmp n c.activities) [
  | None ↦ Some (creator_of n)
  | Some a ↦ wanted_by_intent lists c n (intent_in c n)
]

-- while another steps than the one it needs, an activity cannot step, and needs that one
abbrev pub WantsStay : Type 0
WantsStay = (program : Tree) (lists : ListsShape) (c d : Configuration) (n m : Name) → IsReached program c
    → step (Some lists) c n ≡ None → step (Some lists) c m ≡ Some d → m ≢ n → wanted lists c n ≢ Some m
    → (step (Some lists) d n ≡ None) × (wanted lists d n ≡ wanted lists c n)
