-- What wakes an activity that rests, when another one steps.
use Rattle.std.specs.Prelude.{◌≡◌, ◌≢◌, Bool, false, List, [], ◌++◌, Option, Some, None}
use Rattle.std.specs.List.{list_any}
use Rattle.std.specs.FinMap.{find}
use Rattle.asp_model.specs.Names.{Name, FutureShape, Text, future_cmp}
use Rattle.asp_model.specs.Term.{Head, Serve, Tree, has_text}
use Rattle.asp_model.specs.Split.{Split, Stands, Splits, split}
use Rattle.asp_model.specs.Store.{CellShape, cell}
use Rattle.asp_model.specs.Contraction.{FaultShape}
use Rattle.asp_model.specs.Configuration.{RequestShape, ReceptionShape, Activity, Configuration, requests_of, log_of}
use Rattle.asp_model.specs.Intent.{Effect, Acts, labels_served, Done, Serving, Running, Awaits, Faulted, Rests}
use Rattle.asp_model.specs.Step.{ListsShape, intent_in, step}
use Rattle.asp_model.specs.Status.{status_of}
use Rattle.law_steps.specs.Reached.{IsStep, IsAt, IsFilled, IsThere}
use Rattle.law_steps.specs.Steps.{IsPoll}

abbrev pub labels_of_head : Head → CellShape → List Text
labels_of_head (Serve labels) c = labels_served labels c
labels_of_head h c = []

abbrev pub labels_at : Split → CellShape → List Text
labels_at (Stands place) c = []
labels_at (Splits contexts redex) c = labels_of_head redex.head c

-- the labels that an activity at a `serve` asks for; else none
abbrev pub labels_wanted : Activity → List Text
labels_wanted a = labels_at (split a.term) (cell a.store a.active)

-- one of these requests has one of the labels
abbrev pub has_wanted : List Text → List RequestShape → Bool
has_wanted labels = list_any (λ r. has_text r.label labels)

-- no intent rests as one that runs
abbrev pub NoneRestsRunning : Type 0
NoneRestsRunning = (c : Configuration) (n : Name) → intent_in c n ≢ Rests Running

-- who is done stays so
abbrev pub DoneStays : Type 0
DoneStays = (program : Tree) (c d : Configuration) (n m : Name) (a : Activity)
    → IsStep program c d n → m ≢ n → IsAt c m a
    → status_of c m ≡ Done → status_of d m ≡ Done

-- who is faulted stays so
abbrev pub FaultStays : Type 0
FaultStays = (program : Tree) (c d : Configuration) (n m : Name) (a : Activity) (fault : FaultShape)
    → IsStep program c d n → m ≢ n → IsAt c m a
    → status_of c m ≡ Faulted fault → status_of d m ≡ Faulted fault

-- who is at a `serve` stays there, unless it receives a request that it asks for
abbrev pub ServingStays : Type 0
ServingStays = (program : Tree) (c d : Configuration) (n m : Name) (a : Activity)
    (more : List RequestShape) → IsStep program c d n → m ≢ n → IsAt c m a
    → requests_of d m ≡ requests_of c m ++ more → has_wanted (labels_wanted a) more ≡ false
    → status_of c m ≡ Serving → status_of d m ≡ Serving

-- who awaits a future stays so while that is not filled
abbrev pub AwaitingStays : Type 0
AwaitingStays = (program : Tree) (c d : Configuration) (n m : Name) (a : Activity) (f : FutureShape)
    → IsStep program c d n → m ≢ n → IsAt c m a → find future_cmp f d.futures ≡ None
    → status_of c m ≡ Awaits f → status_of d m ≡ Awaits f

-- who awaits a filled future, since its futures lead into a cycle, awaits one for good
abbrev pub CyclesStay : Type 0
CyclesStay = (program : Tree) (c d : Configuration) (n m : Name) (a : Activity) (f : FutureShape)
    → IsStep program c d n → m ≢ n → IsAt c m a → IsFilled c f
    → status_of c m ≡ Awaits f → (g : FutureShape) × IsFilled d g × (status_of d m ≡ Awaits g)

-- who intends to send or to poll, and is not next in the log where that is noted, is not next until that log grows
abbrev pub OthersStayNext : Type 0
OthersStayNext = (program : Tree) (lists : Option ListsShape) (c d : Configuration) (n m : Name)
    (e : Effect) (x : Name × ReceptionShape)
    → IsStep program c d n → m ≢ n → intent_in c m ≡ Acts e → e.logged ≡ Some x
    → IsThere c x.0 → log_of d x.0 ≡ log_of c x.0
    → (IsPoll m e → requests_of d m ≡ requests_of c m)
    → step lists c m ≡ None → step lists d m ≡ None
