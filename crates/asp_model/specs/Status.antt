-- Statuses and the verdict, with futures read by their chase, and without lists.
use Rattle.std.specs.Prelude.{◌≡◌, Bool, true, false, List, map, cond}
use Rattle.std.specs.List.{list_any}
use Rattle.asp_model.specs.Names.{Name}
use Rattle.asp_model.specs.Configuration.{Configuration}
use Rattle.asp_model.specs.Intent.{StatusShape, Running, Awaits, Intent, Acts, Rests}
use Rattle.asp_model.specs.Step.{intent_in}

-- who acts is running; who rests has the status of its rest
abbrev pub status_of_intent : Intent → StatusShape
status_of_intent (Acts e) = Running
status_of_intent (Rests status) = status

-- the status of an activity
abbrev pub status_of : Configuration → Name → StatusShape
status_of c n = status_of_intent (intent_in c n)

-- the statuses of all activities
abbrev pub statuses_of : Configuration → List StatusShape
statuses_of c = map (λ x. status_of c x.0) c.activities

-- an activity can step
abbrev pub is_running : StatusShape → Bool
is_running Running = true
is_running s = false

-- an activity awaits a future
abbrev pub is_awaiting : StatusShape → Bool
is_awaiting (Awaits f) = true
is_awaiting s = false

-- how a run stands
pub data VerdictShape : Type 0 where
  -- stuck, and none awaits
  End : VerdictShape
  -- stuck, and some await
  Blocked : VerdictShape
  -- not stuck
  Budget : VerdictShape

-- no activity is Running
abbrev pub IsStuck : Configuration → Type 0
IsStuck c = list_any is_running (statuses_of c) ≡ false

-- the verdict over the statuses of all activities
abbrev pub verdict_among : List StatusShape → VerdictShape
verdict_among statuses = cond (list_any is_running statuses) Budget (cond (list_any is_awaiting statuses) Blocked End)

-- the verdict on a configuration
abbrev pub verdict_of : Configuration → VerdictShape
verdict_of c = verdict_among (statuses_of c)
