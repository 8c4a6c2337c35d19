-- What is where after an effect: the requests of each activity, and the activities themselves.
use Rattle.std.specs.Prelude.{◌≡◌, ◌≢◌, [], ◌∷◌, ◌++◌, Some, None}
use Rattle.std.specs.FinMap.{find}
use Rattle.asp_model.specs.Names.{Name, name_cmp}
use Rattle.asp_model.specs.Term.{Tree}
use Rattle.asp_model.specs.Configuration.{RequestShape, Activity, Configuration, requests_of}
use Rattle.asp_model.specs.Intent.{Effect, Acts}
use Rattle.asp_model.specs.Step.{intent_in, with_effect}
use Rattle.law_steps.specs.Reached.{IsReached, IsAt}

-- Requests

-- where nothing is sent, nobody receives
abbrev pub NobodyReceives : Type 0
NobodyReceives = (c : Configuration) (n m : Name) (e : Effect)
    → e.sent ≡ None → requests_of (with_effect n e c) m ≡ requests_of c m

-- who is sent to receives the request, at the end
abbrev pub TargetsReceive : Type 0
TargetsReceive = (c : Configuration) (n m : Name) (e : Effect) (r : RequestShape)
    → e.sent ≡ Some (m, r) → requests_of (with_effect n e c) m ≡ requests_of c m ++ r ∷ []

-- another receives nothing
abbrev pub OthersReceiveNone : Type 0
OthersReceiveNone = (c : Configuration) (n m to : Name) (e : Effect) (r : RequestShape)
    → e.sent ≡ Some (to, r) → m ≢ to → requests_of (with_effect n e c) m ≡ requests_of c m

-- who is not there has received nothing
abbrev pub AbsentReceivedNone : Type 0
AbsentReceivedNone = (program : Tree) (c : Configuration) (m : Name)
    → IsReached program c → find name_cmp m c.activities ≡ None → requests_of c m ≡ []

-- who is made begins with no requests
abbrev pub MadeReceivedNone : Type 0
MadeReceivedNone = (program : Tree) (c : Configuration) (n m : Name) (b : Activity) (e : Effect)
    → IsReached program c → intent_in c n ≡ Acts e → e.made ≡ Some (m, b)
    → requests_of (with_effect n e c) m ≡ []

-- Activities

-- at the stepper stands what the effect leaves of it
abbrev pub OwnIsThere : Type 0
OwnIsThere = (program : Tree) (c : Configuration) (n : Name) (e : Effect)
    → IsReached program c → intent_in c n ≡ Acts e → IsAt (with_effect n e c) n e.own

-- who is made stands at its name
abbrev pub MadeIsThere : Type 0
MadeIsThere = (c : Configuration) (n m : Name) (b : Activity) (e : Effect)
    → e.made ≡ Some (m, b) → IsAt (with_effect n e c) m b

-- at another name stands what stood there
abbrev pub OthersAreKept : Type 0
OthersAreKept = (c : Configuration) (n m : Name) (e : Effect)
    → m ≢ n → ((b : Activity) → e.made ≢ Some (m, b))
    → find name_cmp m (with_effect n e c).activities ≡ find name_cmp m c.activities
