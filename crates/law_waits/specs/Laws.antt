-- Every wait has its cause told, and what is told holds.
use Rattle.std.specs.Prelude.{◌≡◌, ℕ, false, List, Some, None}
use Rattle.std.specs.FinMap.{find}
use Rattle.asp_model.specs.Names.{Name, FutureShape, Text, future_cmp}
use Rattle.asp_model.specs.Term.{Tree, has_text}
use Rattle.asp_model.specs.Parcel.{has_place}
use Rattle.asp_model.specs.Configuration.{RequestShape, Activity, Configuration}
use Rattle.asp_model.specs.Intent.{Done, Serving, Awaits, Faulted}
use Rattle.asp_model.specs.Status.{status_of, IsStuck}
use Rattle.law_steps.specs.Reached.{IsReached, IsAt, IsThere}
use Rattle.law_steps.specs.Kept.{Stands, pending_at, answers_at}
use Rattle.law_steps.specs.Waking.{labels_wanted}
use Rattle.law_steps.specs.Sound.{IsSound}
use Rattle.law_waits.specs.Courses.{ComesTo, IsCircle}
use Rattle.law_waits.specs.Waits.{Standing, Pending, InService, wait_of, waited, value_future}
use Rattle.law_waits.specs.Waits.{Cause, ValueCircle, Ended, AtFault, Unserved, ActivityCircle, cause_of}

-- the future stands so at an activity: its request is there, and is pending, or has to be answered once
abbrev pub StandsSo : Configuration → Name → FutureShape → Standing → Type 0
StandsSo c m f (Pending k r) = Stands c m k r × (r.future ≡ f) × (pending_at c m k ≡ 1)
StandsSo c m f (InService k r) = Stands c m k r × (r.future ≡ f) × (answers_at c m f ≡ 1)

-- an activity awaits a future without a value, and that stands so at one that is there
abbrev pub IsWait : Configuration → Name → Name → Standing → Type 0
IsWait c n m s = (f : FutureShape) × (status_of c n ≡ Awaits f) × (find future_cmp f c.futures ≡ None)
    × IsThere c m × StandsSo c m f s

-- whom one waits for is so
abbrev pub WaitsAreSo : Type 0
WaitsAreSo = (c : Configuration) (n m : Name) (s : Standing) → IsSound c
    → wait_of c n ≡ Some (m, s) → IsWait c n m s

-- who awaits a future without a value waits for somebody
abbrev pub WaitsAreFound : Type 0
WaitsAreFound = (c : Configuration) (n : Name) (f : FutureShape) → IsSound c
    → status_of c n ≡ Awaits f → find future_cmp f c.futures ≡ None
    → (x : Name × Standing) × (wait_of c n ≡ Some x)

-- no pending request of an activity has one of these labels
abbrev pub NonePending : Configuration → Name → Activity → List Text → Type 0
NonePending c m a labels = (k : ℕ) (r : RequestShape) → Stands c m k r → has_place k a.served ≡ false
    → has_text r.label labels ≡ false

-- it is n, or n waits for one who waits .. for it
abbrev pub IsBehind : Configuration → Name → Name → Type 0
IsBehind c = ComesTo (waited c)

-- an activity is at a `serve` of these labels, and no pending request has one of them
abbrev pub IsUnserved : Configuration → Name → List Text → Type 0
IsUnserved c m labels = (status_of c m ≡ Serving)
    × ((a : Activity) × IsAt c m a × (labels ≡ labels_wanted a) × NonePending c m a labels)

-- an activity awaits a future from which the values of futures lead into this circle
abbrev pub IsInValues : Configuration → Name → FutureShape → List FutureShape → Type 0
IsInValues c m first others = (f : FutureShape) × (status_of c m ≡ Awaits f)
    × ComesTo (value_future c.futures) f first × IsCircle (value_future c.futures) first others

-- what a cause says of n is so
abbrev pub Holds : Configuration → Name → Cause → Type 0
Holds c n (ValueCircle m first others) = IsBehind c n m × IsInValues c m first others
Holds c n (Ended m) = IsBehind c n m × (status_of c m ≡ Done)
Holds c n (AtFault m fault) = IsBehind c n m × (status_of c m ≡ Faulted fault)
Holds c n (Unserved m labels) = IsBehind c n m × IsUnserved c m labels
Holds c n (ActivityCircle first others) = IsBehind c n first × IsCircle (waited c) first others

-- where nobody can go on, the cause is told for which an activity rests, and holds
abbrev pub RestsAreCaused : Type 0
RestsAreCaused = (c : Configuration) (n : Name) → IsSound c → IsStuck c → IsThere c n
    → (x : Cause) × (cause_of c n ≡ Some x) × Holds c n x

-- so for each wait of a configuration that is reached
abbrev pub WaitsAreCaused : Type 0
WaitsAreCaused = (program : Tree) (c : Configuration) (n : Name) (f : FutureShape)
    → IsReached program c → IsStuck c → status_of c n ≡ Awaits f
    → (x : Cause) × (cause_of c n ≡ Some x) × Holds c n x
