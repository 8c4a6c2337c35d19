-- The events of a run, as its notes tell them: one row for each kind of note.
use Rattle.std.specs.Prelude.{ℕ, Bool, true, false, ◌||◌, List, [], ◌∷◌, ◌++◌, Option, Some, None, drop, take, option_map}
use Rattle.asp_model.specs.Names.{Name, FutureShape, Text, same_name}
use Rattle.asp_model.specs.Contraction.{FaultShape, LineShape}
use Rattle.replay_parts.specs.Notes.{EventShape, NoteShape, Served, Made, Sent, Answered, Polled, Printed, Standing, Faulted}
use Rattle.run_waits.specs.Books.{BookShape, Request, book_in, newest}

pub data WhatShape : Type 0 where
  Creates : (made : Name) → WhatShape
  -- a request is sent, and received
  Sends : (to : Name) (asked : Request) → WhatShape
  Serves : (asked : Option Request) → WhatShape
  -- the request with this label has its answer
  Answers : (label : Option Text) (future : FutureShape) → WhatShape
  -- it asks what is pending
  Polls : WhatShape
  Prints : (line : LineShape) → WhatShape
  -- it has stopped at this fault
  Fails : (fault : FaultShape) → WhatShape

-- who does what, after so many of its reductions
pub record RunEventShape : Type 0 where
  pub by : Name
  pub count : ℕ
  pub what : WhatShape

-- Events

-- what a note tells, of one whose requests are these after it; where an activity stands is no event
abbrev pub what_of : BookShape → EventShape → Option WhatShape
what_of b (Made made) = Some (Creates made)
what_of b (Sent to label future) = Some (Sends to (label, future))
what_of b (Served labels) = Some (Serves (newest b.serving))
what_of b (Answered future) = Some (Answers (option_map (λ q. q.0) b.answered) future)
what_of b Polled = Some Polls
what_of b (Printed line) = Some (Prints line)
what_of b (Faulted fault) = Some (Fails fault)
what_of b (Standing labels) = None

abbrev pub event_by : NoteShape → WhatShape → RunEventShape
event_by x w = record { by = x.by; count = x.count; what = w }

abbrev pub events_by : NoteShape → Option WhatShape → List RunEventShape
events_by x None = []
events_by x (Some w) = event_by x w ∷ []

-- of a note after others
abbrev pub events_after : List NoteShape → NoteShape → List RunEventShape
events_after seen x = events_by x (what_of (book_in (seen ++ x ∷ []) x.by) x.event)

abbrev pub events_from : List NoteShape → List NoteShape → List RunEventShape
events_from seen [] = []
events_from seen (x ∷ xs) = events_after seen x ++ events_from (seen ++ x ∷ []) xs

-- the events that notes tell, in their order
abbrev pub events_in : List NoteShape → List RunEventShape
events_in xs = events_from [] xs

-- Which are asked for

-- who is created, or whom a request comes to
abbrev pub is_other : Name → WhatShape → Bool
is_other n (Creates made) = same_name made n
is_other n (Sends to asked) = same_name to n
is_other n w = false

-- those of one activity, or all
abbrev pub concerns : Option Name → RunEventShape → Bool
concerns None e = true
concerns (Some n) e = same_name e.by n || is_other n e.what

-- at most so many of them, after so many
abbrev pub page : (skip most : ℕ) → List RunEventShape → List RunEventShape
page skip most es = take most (drop skip es)
