-- What a step of one activity does, and what it leaves of the others.
use Rattle.std.specs.Prelude.{◌≡◌, ◌≢◌, ◌⊎◌, ℕ, suc, List, ◌++◌, ◌∷◌, [], Option, Some, None}
use Rattle.std.specs.FinMap.{find, put}
use Rattle.asp_model.specs.Names.{Name, FutureShape, name_cmp, future_cmp, created_name}
use Rattle.asp_model.specs.Term.{Tree}
use Rattle.asp_model.specs.Parcel.{ParcelShape}
use Rattle.asp_model.specs.Configuration.{RequestShape, ReceptionShape, From, Poll, Activity, Configuration, requests_of, log_of}
use Rattle.asp_model.specs.Intent.{Effect, Acts}
use Rattle.asp_model.specs.Step.{ListsShape, intent_in, step}
use Rattle.law_steps.specs.Reached.{IsReached, IsStep, IsAt}
use Rattle.law_steps.specs.Kept.{Stands}

-- a step with lists is the step without
abbrev pub ListedIsFree : Type 0
ListedIsFree = (lists : Option ListsShape) (c d : Configuration) (n : Name)
    → step lists c n ≡ Some d → step None c n ≡ Some d

-- who steps is there, and has one reduction more
abbrev pub StepsCount : Type 0
StepsCount = (program : Tree) (c d : Configuration) (n : Name) → IsStep program c d n
    → (a b : Activity) × IsAt c n a × IsAt d n b × (b.reductions ≡ suc a.reductions)

-- another activity is as before
abbrev pub OthersStay : Type 0
OthersStay = (program : Tree) (c d : Configuration) (n m : Name) (a : Activity)
    → IsStep program c d n → m ≢ n → IsAt c m a → IsAt d m a

-- an activity that comes with a step is the next one that its stepper creates
abbrev pub OneIsMade : Type 0
OneIsMade = (program : Tree) (c d : Configuration) (n m : Name) (a b : Activity)
    → IsStep program c d n → IsAt c n a → find name_cmp m c.activities ≡ None → IsAt d m b
    → m ≡ created_name n (suc a.creations)

-- it received one request more, from this sender
abbrev pub ReceivesFrom : Name → (c d : Configuration) → Name → Type 0
ReceivesFrom n c d m = (r : RequestShape)
    × (requests_of d m ≡ requests_of c m ++ r ∷ []) × (r.sender ≡ n)

-- an activity receives nothing, or one request from who steps
abbrev pub RequestsGrow : Type 0
RequestsGrow = (lists : Option ListsShape) (c d : Configuration) (n m : Name)
    → step lists c n ≡ Some d → (requests_of d m ≡ requests_of c m) ⊎ ReceivesFrom n c d m

-- a log and requests are as before; or both have one more, from who steps; or it is a poll of who steps
abbrev pub Grown : (n m : Name) → (was now : List ReceptionShape) → (had has : List RequestShape) → Type 0
Grown n m was now had has = ((now ≡ was) × (has ≡ had))
    ⊎ (((r : RequestShape) × (now ≡ was ++ From n ∷ []) × (has ≡ had ++ r ∷ []) × (r.sender ≡ n))
    ⊎ ((m ≡ n) × (now ≡ was ++ Poll ∷ []) × (has ≡ had)))

-- so each activity's log and requests grow in a step
abbrev pub LogsGrow : Type 0
LogsGrow = (lists : Option ListsShape) (c d : Configuration) (n m : Name) → step lists c n ≡ Some d
    → Grown n m (log_of c m) (log_of d m) (requests_of c m) (requests_of d m)

-- one future more is filled, which was not
abbrev pub FillsOne : (c d : Configuration) → Type 0
FillsOne c d = (f : FutureShape) × (value : ParcelShape) × (find future_cmp f c.futures ≡ None)
    × (d.futures ≡ put future_cmp f value c.futures)

-- a step fills no future, or one
abbrev pub FuturesFill : Type 0
FuturesFill = (program : Tree) (c d : Configuration) (n : Name)
    → IsStep program c d n → (d.futures ≡ c.futures) ⊎ FillsOne c d

-- an effect is a poll
abbrev pub IsPoll : Name → Effect → Type 0
IsPoll n e = e.logged ≡ Some (n, Poll)

-- what another activity intends to do, it does after the step too, if it does not poll what the step sent
abbrev pub IntentsStay : Type 0
IntentsStay = (program : Tree) (c d : Configuration) (n m : Name) (e : Effect)
    → IsStep program c d n → m ≢ n → (IsPoll m e → requests_of d m ≡ requests_of c m)
    → intent_in c m ≡ Acts e → intent_in d m ≡ Acts e

-- and a poll is one still
abbrev pub PollsStay : Type 0
PollsStay = (program : Tree) (c d : Configuration) (n m : Name) (e : Effect)
    → IsStep program c d n → m ≢ n → IsPoll m e → intent_in c m ≡ Acts e
    → (x : Effect) × (intent_in d m ≡ Acts x) × IsPoll m x

-- what an effect makes, sends and fills is new: the activity, the request's future and the value
pub record IsNewTo (c : Configuration) (e : Effect) : Type 0 where
  pub made : (z : Name × Activity) → e.made ≡ Some z → find name_cmp z.0 c.activities ≡ None
  pub sent : (z : Name × RequestShape) → e.sent ≡ Some z
      → (m : Name) (k : ℕ) (r : RequestShape) → Stands c m k r → r.future ≢ z.1.future
  pub filled : (z : FutureShape × ParcelShape) → e.filled ≡ Some z
      → find future_cmp z.0 c.futures ≡ None

-- what an activity intends to make, send and fill is new
abbrev pub EffectsAreNew : Type 0
EffectsAreNew = (program : Tree) (c : Configuration) (n : Name) (e : Effect)
    → IsReached program c → intent_in c n ≡ Acts e → IsNewTo c e
