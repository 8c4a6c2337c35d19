-- What is too large to be drawn.
use Rattle.std.specs.Prelude.{◌⊎◌, ◌<◌, ℕ, length}
use Rattle.explain.specs.declared.events.EventsRun.{EventsRun}
use Rattle.explain.specs.declared.pictures.picture.TheConstants.{MOST_EVENTS, MOST_LANES}

-- there are more lines than are drawn, or more events
abbrev pub AreMany : (lanes events : ℕ) → Type 0
AreMany lanes events = (MOST_LANES < lanes) ⊎ (MOST_EVENTS < events)

-- a run has more activities than are drawn, or more events
abbrev pub IsLarge : EventsRun → Type 0
IsLarge run = AreMany (length run.outcome.activities.items) (length run.events.items)
