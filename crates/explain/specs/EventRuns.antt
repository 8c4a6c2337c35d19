-- The events that a replay keeps.
use Rattle.std.specs.Prelude.{◌≡◌, ℕ, ◌^◌, ◌-◌, List, ◌++◌, length, map, min}
use Rattle.std.specs.List.{filter}
use Rattle.asp_model.specs.Names.{Name}
use Rattle.asp_model.specs.Term.{Tree}
use Rattle.asp_model.specs.Step.{ListsShape}
use Rattle.asp_model.specs.Replay.{CountsShape, replay}
use Rattle.replay_parts.specs.Notes.{HasNames, places_in, replay_notes}
use Rattle.explain.specs.declared.events.event.RunEvent.{RunEvent}
use Rattle.explain.specs.declared.events.EventsRun.{EventsRun}
use Rattle.explain.specs.declared.events.page.Wish.{Wish}
use Rattle.explain.specs.Events.{RunEventShape, concerns, events_in, page}
use Rattle.explain.specs.EventsHeard.{event_shape}

-- all events of a replay, in the order of its steps, and then the faults at which its activities stand
abbrev pub all_events : Tree → ListsShape → CountsShape → List Name → List RunEventShape
all_events program lists counts names =
    events_in (replay_notes program lists counts ++ places_in (replay program lists counts) names)

-- of these events those are shown that are asked for, and this is how many of them concern the activity
pub record IsShown (wish : Wish) (count : ℕ) (es : List RunEventShape) (shown : List RunEvent) : Type 0 where
  pub events : map event_shape shown ≡ page wish.skip wish.most (filter (concerns wish.activity) es)
  pub all : count ≡ min (length (filter (concerns wish.activity) es)) (2 ^ 64 - 1)

-- what is kept of a replay
pub record AreEventsOf (program : Tree) (lists : ListsShape) (counts : CountsShape) (wish : Wish) (r : EventsRun) : Type 0 where
  pub names : List Name
  pub whole : HasNames (replay program lists counts) names
  pub shown : IsShown wish r.all (all_events program lists counts names) r.events.items
