-- Why somebody waits: for whom it waits, and where that ends.
use Rattle.std.specs.Prelude.{ℕ, suc, Bool, true, false, List, [], ◌∷◌, Option, Some, None, length}
use Rattle.std.specs.FinMap.{find}
use Rattle.asp_model.specs.Names.{Name, FutureShape, Text, name_cmp, future_cmp, same_name, same_future}
use Rattle.asp_model.specs.Chase.{Values, Ends, Goes, Misses, lead}
use Rattle.asp_model.specs.Contraction.{FaultShape}
use Rattle.asp_model.specs.Configuration.{RequestShape, Activity, Configuration}
use Rattle.asp_model.specs.Intent.{Numbered, StatusShape, Done, Serving, Running, Awaits, Faulted}
use Rattle.asp_model.specs.Status.{status_of}
use Rattle.law_steps.specs.Kept.{is_served}
use Rattle.law_steps.specs.Waking.{labels_wanted}
use Rattle.law_waits.specs.Courses.{Course, Stops, Circles, course_from}

-- where the request of an unfilled future stands, at the activity that received it; requests are numbered from 0
pub data Standing : Type 0 where
  -- it was not served yet
  Pending : (number : ℕ) (request : RequestShape) → Standing
  -- its service has begun, and has not ended
  InService : (number : ℕ) (request : RequestShape) → Standing

-- the first request with this future, where the first of all has this number
abbrev pub request_for : FutureShape → ℕ → List RequestShape → Option Numbered
request_for f k [] = None
request_for f k (r ∷ rs) = elim (same_future f r.future) [ true ↦ Some (k, r) | false ↦ request_for f (suc k) rs ]

-- who received a request with this future, and that request
abbrev pub receiver_of : FutureShape → List (Name × List RequestShape) → Option (Name × Numbered)
receiver_of f [] = None
receiver_of f (x ∷ xs) = elim (request_for f 0 x.1) [ None ↦ receiver_of f xs | Some y ↦ Some (x.0, y) ]

abbrev pub standing_by : Bool → Numbered → Standing
standing_by false x = Pending x.0 x.1
standing_by true x = InService x.0 x.1

-- who has to answer a future without a value, and where it stands there
abbrev pub holder_of : Configuration → FutureShape → Option (Name × Standing)
holder_of c f = elim (receiver_of f c.received) [
  | None ↦ None
  | Some x ↦ Some (x.0, standing_by (is_served x.1.0 (find name_cmp x.0 c.activities)) x.1)
]

-- whom an activity waits for that awaits a future without a value, and where the future stands there; else none
abbrev pub wait_of : Configuration → Name → Option (Name × Standing)
wait_of c n = elim (status_of c n) [
  | Done ↦ None
  | Serving ↦ None
  | Running ↦ None
  | Awaits f ↦ elim (find future_cmp f c.futures) [ None ↦ holder_of c f | Some p ↦ None ]
  | Faulted fault ↦ None
]

-- Causes

pub data Cause : Type 0 where
  -- it awaits a future that leads into a circle of values, each of which is the next future
  ValueCircle : (name : Name) (first : FutureShape) (others : List FutureShape) → Cause
  -- it has ended, so it serves no more
  Ended : (name : Name) → Cause
  AtFault : (name : Name) (fault : FaultShape) → Cause
  -- it is at a `serve` of these labels, and no pending request has one of them
  Unserved : (name : Name) (labels : List Text) → Cause
  -- each of these waits for the next, and the last for the first
  ActivityCircle : (first : Name) (others : List Name) → Cause

-- whom an activity waits for
abbrev pub waited : Configuration → Name → Option Name
waited c n = elim (wait_of c n) [ None ↦ None | Some x ↦ Some x.0 ]

-- the future that is the value of a future
abbrev pub value_future : Values → FutureShape → Option FutureShape
value_future values f = elim (lead values f) [ Ends p ↦ None | Goes g ↦ Some g | Misses ↦ None ]

-- where the values of futures lead from one
abbrev pub value_course : Configuration → FutureShape → Option (Course FutureShape)
value_course c f = course_from same_future (value_future c.futures) (length c.futures) [] f

-- where waits lead from an activity
abbrev pub wait_course : Configuration → Name → Option (Course Name)
wait_course c n = course_from same_name (waited c) (length c.activities) [] n

abbrev pub labels_at : Option Activity → List Text
labels_at None = []
labels_at (Some a) = labels_wanted a

-- by its status, why an activity rests that waits for nobody
abbrev pub cause_by : Configuration → Name → StatusShape → Option Cause
cause_by c n Done = Some (Ended n)
cause_by c n Serving = Some (Unserved n (labels_at (find name_cmp n c.activities)))
cause_by c n Running = None
cause_by c n (Awaits f) = elim (value_course c f) [
  | None ↦ None
  | Some x ↦ elim x [ Stops last ↦ None | Circles first others ↦ Some (ValueCircle n first others) ]
]
cause_by c n (Faulted fault) = Some (AtFault n fault)

-- why an activity rests: what its waits lead to
abbrev pub cause_of : Configuration → Name → Option Cause
cause_of c n = elim (wait_course c n) [
  | None ↦ None
  | Some x ↦ elim x [
    | Stops last ↦ cause_by c last (status_of c last)
    | Circles first others ↦ Some (ActivityCircle first others)
  ]
]
