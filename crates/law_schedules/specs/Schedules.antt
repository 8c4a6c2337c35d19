-- Who need not be looked at for the next step of a run on one thread, and whom a step wakes.
use Rattle.std.specs.Prelude.{◌≡◌, ◌≢◌, ◌⊎◌, ◌≤◌, ◌<◌, ℕ, Bool, true, false, Option, Some, None, length}
use Rattle.std.specs.FinMap.{find}
use Rattle.std.specs.Ordering.{is_lt}
use Rattle.asp_model.specs.Names.{Name, FutureShape, name_cmp, future_cmp, main_name}
use Rattle.asp_model.specs.Parcel.{ParcelShape}
use Rattle.asp_model.specs.Term.{Tree}
use Rattle.asp_model.specs.Configuration.{RequestShape, ReceptionShape, From, Poll, Activity, Configuration, start, log_of}
use Rattle.asp_model.specs.Intent.{Effect, Acts, Awaits}
use Rattle.asp_model.specs.Step.{ListsShape, reception_at, intent_in, step, with_effect}
use Rattle.asp_model.specs.Status.{status_of}
use Rattle.asp_model.specs.Replay.{log_in, least_step}
use Rattle.law_steps.specs.Reached.{IsReached, IsAt, IsThere}

-- an activity is at its count, if it is there
abbrev pub IsAtCount : (Name → ℕ) → Configuration → Name → Type 0
IsAtCount count c n = (a : Activity) → IsAt c n a → count n ≤ a.reductions

-- it is at its count, or it cannot step
abbrev pub RestsIn : Option ListsShape → (Name → ℕ) → Configuration → Name → Type 0
RestsIn lists count c n = IsAtCount count c n ⊎ (step lists c n ≡ None)

-- it awaits this future, which is not filled
abbrev pub WaitsFor : Configuration → Name → FutureShape → Type 0
WaitsFor c n f = (status_of c n ≡ Awaits f) × (find future_cmp f c.futures ≡ None)

-- who is not ready rests, and is noted at the unfilled future that it awaits, if it is below its count
pub record IsScheduled (lists : Option ListsShape) (count : Name → ℕ) (c : Configuration)
    (ready : Name → Bool) (noted : FutureShape → Name → Bool) : Type 0 where
  pub rest : (n : Name) → IsThere c n → ready n ≡ false → RestsIn lists count c n
  pub waiting : (n : Name) (f : FutureShape) (a : Activity) → IsAt c n a → a.reductions < count n
      → ready n ≡ false → WaitsFor c n f → noted f n ≡ true

-- it sends to this activity
abbrev pub IsSentTo : Effect → Name → Type 0
IsSentTo e m = (r : RequestShape) × (e.sent ≡ Some (m, r))

-- it fills this future
abbrev pub IsFilledBy : Effect → FutureShape → Type 0
IsFilledBy e f = (p : ParcelShape) × (e.filled ≡ Some (f, p))

-- it logs at this activity
abbrev pub IsLoggedTo : Effect → Name → Type 0
IsLoggedTo e m = (x : ReceptionShape) × (e.logged ≡ Some (m, x))

-- a reception of this activity in the log of another: it sends there, or it is its own and it polls
abbrev pub IsOf : Name → Name → ReceptionShape → Type 0
IsOf q m (From n) = n ≡ q
IsOf q m Poll = m ≡ q

-- the log has this one's reception next for an activity
abbrev pub IsNextIn : Option ListsShape → Configuration → Name → Name → Type 0
IsNextIn None c m q = ⊥
IsNextIn (Some lists) c m q = (x : ReceptionShape)
    × (reception_at (log_in lists m) (length (log_of c m)) ≡ Some x) × IsOf q m x

-- those that an effect of n wakes are ready: n, whom it makes, whom it sends to, who is next in the log
-- where it logs, and who is noted at the future that it fills
pub record IsWokenBy (lists : Option ListsShape) (c : Configuration) (n : Name) (e : Effect)
    (noted : FutureShape → Name → Bool) (ready : Name → Bool) : Type 0 where
  pub stepper : ready n ≡ true
  pub made : (m : Name) (b : Activity) → e.made ≡ Some (m, b) → ready m ≡ true
  pub target : (m : Name) → IsSentTo e m → ready m ≡ true
  pub next : (m q : Name) → IsLoggedTo e m → IsNextIn lists (with_effect n e c) m q → ready q ≡ true
  pub filled : (f : FutureShape) (q : Name) → IsFilledBy e f → noted f q ≡ true → ready q ≡ true

-- Laws

-- if a step adds the activities that it wakes to the ready ones, every other activity still rests
abbrev pub WokenAreScheduled : Type 0
WokenAreScheduled = (program : Tree) (lists : Option ListsShape) (count : Name → ℕ) (c : Configuration)
    (n : Name) (e : Effect) (noted : FutureShape → Name → Bool) (before after : Name → Bool)
    → IsReached program c → intent_in c n ≡ Acts e → step lists c n ≡ Some (with_effect n e c)
    → IsScheduled lists count c before noted
    → ((m : Name) → before m ≡ true → after m ≡ true) → IsWokenBy lists c n e noted after
    → IsScheduled lists count (with_effect n e c) after noted

-- who rests may leave, noted at the unfilled future that it awaits
abbrev pub RestersLeave : Type 0
RestersLeave = (lists : Option ListsShape) (count : Name → ℕ) (c : Configuration) (n : Name)
    (noted noting : FutureShape → Name → Bool) (before after : Name → Bool)
    → IsScheduled lists count c before noted → RestsIn lists count c n
    → ((m : Name) → m ≢ n → after m ≡ before m)
    → ((f : FutureShape) (m : Name) → noted f m ≡ true → noting f m ≡ true)
    → ((f : FutureShape) (a : Activity) → IsAt c n a → a.reductions < count n → WaitsFor c n f → noting f n ≡ true)
    → IsScheduled lists count c after noting

-- notes at filled futures may be dropped
abbrev pub NotesLeave : Type 0
NotesLeave = (lists : Option ListsShape) (count : Name → ℕ) (c : Configuration)
    (ready : Name → Bool) (noted noting : FutureShape → Name → Bool)
    → IsScheduled lists count c ready noted
    → ((f : FutureShape) (m : Name) → find future_cmp f c.futures ≡ None → noted f m ≡ true → noting f m ≡ true)
    → IsScheduled lists count c ready noting

-- the least of those ready steps next, where it is below its count and can step
abbrev pub LeastSteps : Type 0
LeastSteps = (program : Tree) (lists : Option ListsShape) (count : Name → ℕ) (c d : Configuration) (n : Name) (a : Activity)
    (ready : Name → Bool) (noted : FutureShape → Name → Bool)
    → IsReached program c → IsScheduled lists count c ready noted
    → ((m : Name) → ready m ≡ true → is_lt (name_cmp m n) ≡ false)
    → IsAt c n a → a.reductions < count n → step lists c n ≡ Some d
    → least_step lists count c c.activities ≡ Some d

-- nobody steps where nobody is ready
abbrev pub NoneIsReady : Type 0
NoneIsReady = (program : Tree) (lists : Option ListsShape) (count : Name → ℕ) (c : Configuration)
    (ready : Name → Bool) (noted : FutureShape → Name → Bool)
    → IsReached program c → IsScheduled lists count c ready noted
    → ((m : Name) → IsThere c m → ready m ≡ false)
    → least_step lists count c c.activities ≡ None

-- at the start main is ready
abbrev pub MainIsReady : Type 0
MainIsReady = (program : Tree) (lists : Option ListsShape) (count : Name → ℕ)
    (ready : Name → Bool) (noted : FutureShape → Name → Bool)
    → ready main_name ≡ true → IsScheduled lists count (start program) ready noted
