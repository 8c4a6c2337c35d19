-- What those who rest wait for, so that a step wakes who waits for what it gives, and nobody else.
use Rattle.std.specs.Prelude.{◌≡◌, ◌<◌, ℕ, Bool, true, false, Option, Some}
use Rattle.asp_model.specs.Names.{Name, FutureShape, Text, main_name}
use Rattle.asp_model.specs.Term.{Tree, has_text}
use Rattle.asp_model.specs.Configuration.{RequestShape, ReceptionShape, Activity, Configuration, start}
use Rattle.asp_model.specs.Intent.{Effect, Acts, Serving}
use Rattle.asp_model.specs.Step.{ListsShape, intent_in, step, with_effect}
use Rattle.asp_model.specs.Status.{status_of}
use Rattle.law_steps.specs.Reached.{IsReached, IsAt}
use Rattle.law_steps.specs.Waking.{labels_wanted}
use Rattle.law_schedules.specs.Schedules.{IsFilledBy, IsNextIn, IsScheduled, IsLoggedTo}

-- what is noted of those who rest: the labels that one asks for, and in whose log one that is held would stand
pub record Watches : Type 0 where
  pub asks : Name → Text → Bool
  pub sends : Name → Name → Bool

-- an activity below its count is noted by the labels of its `serve`, and by in whose log it would stand
pub record IsWatchedAt (w : Watches) (count : Name → ℕ) (c : Configuration) (n : Name) : Type 0 where
  pub serving : (a : Activity) (l : Text) → IsAt c n a → a.reductions < count n
      → status_of c n ≡ Serving → has_text l (labels_wanted a) ≡ true → w.asks n l ≡ true
  pub sending : (a : Activity) (e : Effect) (x : Name × ReceptionShape) → IsAt c n a
      → a.reductions < count n → intent_in c n ≡ Acts e → e.logged ≡ Some x → w.sends n x.0 ≡ true

-- so is each that is not ready
abbrev pub IsWatched : Watches → (Name → ℕ) → Configuration → (Name → Bool) → Type 0
IsWatched w count c ready = (n : Name) → ready n ≡ false → IsWatchedAt w count c n

-- those that an effect of n is for are ready: n, whom it makes, whom it sends what that one asks for, who is
-- next in the log where it logs and is so noted, and who is noted at the future that it fills
pub record IsCalledBy (lists : Option ListsShape) (c : Configuration) (n : Name) (e : Effect)
    (noted : FutureShape → Name → Bool) (w : Watches) (ready : Name → Bool) : Type 0 where
  pub stepper : ready n ≡ true
  pub made : (m : Name) (b : Activity) → e.made ≡ Some (m, b) → ready m ≡ true
  pub target : (m : Name) (r : RequestShape) → e.sent ≡ Some (m, r) → w.asks m r.label ≡ true
      → ready m ≡ true
  pub next : (m q : Name) → IsLoggedTo e m → IsNextIn lists (with_effect n e c) m q
      → w.sends q m ≡ true → ready q ≡ true
  pub filled : (f : FutureShape) (q : Name) → IsFilledBy e f → noted f q ≡ true → ready q ≡ true

-- Laws

-- after a step, with those ready who were and whom it is for, who is not ready rests still, and waits
-- for what is noted
abbrev pub CalledAreScheduled : Type 0
CalledAreScheduled = (program : Tree) (lists : Option ListsShape) (count : Name → ℕ) (c : Configuration)
    (n : Name) (e : Effect) (noted : FutureShape → Name → Bool) (w : Watches)
    (before after : Name → Bool)
    → IsReached program c → intent_in c n ≡ Acts e → step lists c n ≡ Some (with_effect n e c)
    → IsScheduled lists count c before noted → IsWatched w count c before
    → ((m : Name) → before m ≡ true → after m ≡ true) → IsCalledBy lists c n e noted w after
    → IsScheduled lists count (with_effect n e c) after noted
    × IsWatched w count (with_effect n e c) after

-- at the start main is ready
abbrev pub MainIsWatched : Type 0
MainIsWatched = (program : Tree) (count : Name → ℕ) (w : Watches) (ready : Name → Bool)
    → ready main_name ≡ true → IsWatched w count (start program) ready
