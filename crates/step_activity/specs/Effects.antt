-- What a reduction leaves of an activity, and what it gives to others.
use Rattle.std.specs.Prelude.{◌≡◌, ◌++◌, List, [], ◌∷◌, Option, Some, None}
use Rattle.std.specs.Arc.{arc_value}
use Rattle.asp_model.specs.Names.{Name}
use Rattle.asp_model.specs.Configuration as model
use Rattle.asp_model.specs.Configuration.{ReceptionShape, From, Poll, RequestShape}
use Rattle.asp_model.specs.Intent.{Effect, Intent, Acts, Rests}
use Rattle.law_steps.specs.Steps.{IsPoll}
use Rattle.code_table.specs.Cells.{held_future}
use Rattle.code_table.specs.Shapes.{parcel_shape}
use Rattle.code_table.specs.declared.code.Node.{Node}
use Rattle.request_queue.specs.Requests.{request_shape}
use Rattle.step_activity.specs.declared.actor.Actor.{Actor}
use Rattle.step_activity.specs.declared.act.Given.{Given}
use Rattle.step_activity.specs.declared.act.Given.TheVariants as given
use Rattle.step_activity.specs.Actors.{Stands, code_of, log_in}

-- the activity that an effect makes, with nothing in its log
abbrev pub IsMade : Option (Name × model.Activity) → Name → Actor → Type 0
IsMade None n x = ⊥
IsMade (Some made) n x = (made.0 ≡ n) × Stands x made.1 [] × (log_in x ≡ [])

-- what an effect of this activity gives to others, and what it logs
abbrev pub IsGiven : Name → Effect → Given → Type 0
IsGiven n e given.Nothing =
    (e.sent ≡ None) × (e.made ≡ None) × (e.filled ≡ None) × (e.logged ≡ None)
IsGiven n e (given.Made m x) =
    (e.sent ≡ None) × IsMade e.made m x.value × (e.filled ≡ None) × (e.logged ≡ None)
IsGiven n e (given.Sent m r) =
    (e.sent ≡ Some (m, request_shape r)) × (e.made ≡ None) × (e.filled ≡ None)
    × (e.logged ≡ Some (m, From r.sender))
IsGiven n e (given.Filled f p) =
    (e.sent ≡ None) × (e.made ≡ None) × (e.filled ≡ Some (held_future f, parcel_shape p))
    × (e.logged ≡ None)
IsGiven n e given.Polled =
    (e.sent ≡ None) × (e.made ≡ None) × (e.filled ≡ None) × IsPoll n e

-- the log of the activity itself before and after what gives this: a poll is noted, and nothing else
abbrev pub IsLogAfter : List ReceptionShape → List ReceptionShape → Given → Type 0
IsLogAfter before after given.Polled = after ≡ before ++ Poll ∷ []
IsLogAfter before after g = after ≡ before

-- what is given is of this code
abbrev pub IsGivenOf : List Node → Given → Type 0
IsGivenOf k given.Nothing = Unit {0}
IsGivenOf k (given.Made n x) = code_of x.value ≡ k
IsGivenOf k (given.Sent n r) = arc_value r.arguments.code ≡ k
IsGivenOf k (given.Filled f p) = arc_value p.code ≡ k
IsGivenOf k given.Polled = Unit {0}

-- an intent of this activity that acts is carried out
abbrev pub IsDoneBy : Name → Intent → List RequestShape → Actor → Given → Type 0
IsDoneBy n (Acts e) rs new g = Stands new e.own rs × IsGiven n e g
IsDoneBy n (Rests status) rs new g = Unit {0}
