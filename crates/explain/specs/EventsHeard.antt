-- What a listener keeps.
use Rattle.std.specs.Prelude.{◌≡◌, ℕ, ◌^◌, ◌-◌, List, [], ◌∷◌, Option, Some, None, length, map, min, option_map}
use Rattle.std.specs.List.{filter}
use Rattle.asp_model.specs.Names.{Name}
use Rattle.asp_model.specs.Shapes.{fault_shape, future_shape, line_shape}
use Rattle.serve_rules.specs.Labels.{label_text}
use Rattle.serve_rules.specs.Wanted.{wanted_labels}
use Rattle.replay_parts.specs.declared.notes.Event.{Event}
use Rattle.replay_parts.specs.declared.notes.Event.TheVariants as event
use Rattle.replay_parts.specs.Notes.{EventShape, NoteShape, Served, Made, Sent, Answered, Polled, Printed, Standing, Faulted}
use Rattle.explain.specs.declared.events.event.RunEvent.{RunEvent}
use Rattle.explain.specs.declared.events.event.What.{What}
use Rattle.explain.specs.declared.events.event.What.TheVariants as what
use Rattle.explain.specs.declared.events.listener.Listener.{Listener}
use Rattle.explain.specs.declared.events.page.Page.{Page}
use Rattle.explain.specs.declared.events.page.Wish.{Wish}
use Rattle.run_waits.specs.Books.{KeepsBooks, request_of}
use Rattle.explain.specs.Events.{RunEventShape, WhatShape, Creates, Sends, Serves, Answers, Polls, Prints, Fails, concerns, events_in, page}

-- Events

abbrev pub what_shape : What → WhatShape
what_shape (what.Creates made) = Creates made
what_shape (what.Sends to asked) = Sends to (request_of asked)
what_shape (what.Serves asked) = Serves (option_map request_of asked)
what_shape (what.Answers label future) = Answers (option_map label_text label) (future_shape future)
what_shape what.Polls = Polls
what_shape (what.Prints line) = Prints (line_shape line)
what_shape (what.Fails fault) = Fails (fault_shape fault)

abbrev pub event_shape : RunEvent → RunEventShape
event_shape e = record { by = e.by; count = e.count; what = what_shape e.what }

-- Notes as they are told

abbrev pub event_told : Event → EventShape
event_told (event.Served wanted) = Served (wanted_labels wanted)
event_told (event.Made made) = Made made.now
event_told (event.Sent to label future) = Sent to.now label.now.text (future_shape future.now)
event_told (event.Answered future) = Answered (future_shape future.now)
event_told event.Polled = Polled
event_told (event.Printed line) = Printed (line_shape line.now)
event_told (event.Standing wanted) = Standing (wanted_labels wanted)
event_told (event.Faulted fault) = Faulted (fault_shape fault)

-- A page

abbrev pub mine : Wish → List RunEventShape → List RunEventShape
mine wish es = filter (concerns wish.activity) es

-- of these events those that are asked for are kept, and all counted
pub record IsPage (p : Page) (es : List RunEventShape) : Type 0 where
  pub passed : p.passed ≡ min p.wish.skip (length (mine p.wish es))
  pub all : p.all ≡ min (length (mine p.wish es)) (2 ^ 64 - 1)
  pub events : map event_shape p.events.items ≡ page p.wish.skip p.wish.most (mine p.wish es)

-- A listener

-- a note that stands for what is asked for: a listener keeps events as if it had been told that first
abbrev pub wish_event : Option Name → ℕ → EventShape
wish_event None most = Answered (record { by = []; index = most })
wish_event (Some n) most = Sent n [] (record { by = []; index = most })

abbrev pub wish_note : Wish → NoteShape
wish_note w = record { by = []; count = w.skip; event = wish_event w.activity w.most }

-- it keeps what is asked for of the events that notes tell
pub record IsHeard (l : Listener) (x : NoteShape) (xs : List NoteShape) : Type 0 where
  pub wish : x ≡ wish_note l.page.wish
  pub page : IsPage l.page (events_in xs)
  pub books : KeepsBooks l.books xs

abbrev pub Tells : Listener → List NoteShape → Type 0
Tells l [] = ⊥
Tells l (x ∷ xs) = IsHeard l x xs
