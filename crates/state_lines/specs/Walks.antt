-- What is shown, and what is still to be shown.
use Rattle.std.specs.Prelude.{◌≡◌, ℕ, zero, suc, List, [], ◌∷◌, ◌++◌, Option, Some, None, codes, length, map, reverse}
use Rattle.std.specs.List.{AllByRecursion}
use Rattle.def_paths.specs.Places.{Place, Side, found, children}
use Rattle.def_paths.specs.StateLines.{Path, Shown, show_to, shown_below, state_shown}
use Rattle.state_lines.specs.declared.state.State.{State}
use Rattle.run_ends.specs.declared.entered.Spot.{Spot}
use Rattle.run_ends.specs.declared.entered.Entered.{Entered}
use Rattle.state_lines.specs.declared.below.Due.{Due}
use Rattle.state_lines.specs.declared.lines.Walk.{Walk}
use Rattle.state_lines.specs.States.{side_in}
use Rattle.run_ends.specs.Spots.{IsSpot, IsNumbered, HasValues, spot_place, place_of, places_in, size_of}

-- a place that is still to be shown, down to a depth below it
pub record Pending : Type 0 where
  pub depth : ℕ
  pub path : Path
  pub place : Place

-- what is shown in the end, the last of these first
abbrev pub show_all : Side → List Pending → Shown → Shown
show_all a [] w = w
show_all a (x ∷ xs) w = show_to x.depth a x.path x.place (show_all a xs w)

abbrev pub pending_at : ℕ → Path × Place → Pending
pending_at d x = record { depth = d; path = x.0; place = x.1 }

-- what is below a place, where it is shown down to a depth below it
abbrev pub pending_below : ℕ → Side → Path → Place → List Pending
pending_below zero a path p = []
pending_below (suc d) a path p = map (pending_at d) (shown_below path (found a p) (children a p))

-- What a walk stands for

abbrev pub pending_of : List Place → Due → Pending
pending_of ps d = record { depth = d.depth; path = d.path; place = spot_place ps d.spot }

abbrev pub all_pending : Entered → List Due → List Pending
all_pending e ds = map (pending_of (places_in e)) ds

abbrev pub shown_with : List Place → List (Spot × Path) → List (List ℕ) → Shown
shown_with ps es lines = record { places = map (λ e. (spot_place ps e.0, e.1)) es; lines = lines }

abbrev pub shown_in : Walk → Shown
shown_in w = shown_with (places_in w.entered) w.paths.entries w.lines.items

-- what is shown in the end, with these places still to be shown
abbrev pub shown_after : State → Walk → List Due → Shown
shown_after s w ds = show_all (side_in s) (all_pending w.entered ds) (shown_in w)

-- the whole of what is shown of a state
abbrev pub state_seen : State → ℕ → Shown
state_seen s d = state_shown d (side_in s) s.active s.result

abbrev pub AreSpots : ℕ → List Due → Type 0
AreSpots n = AllByRecursion (λ d. IsSpot n d.spot)

pub record IsWalk (s : State) (w : Walk) : Type 0 where
  pub numbered : IsNumbered w.entered
  pub values : HasValues (side_in s) w.entered
  pub paths : AllByRecursion (λ e. IsSpot (size_of w.entered) e.0) w.paths.entries
  pub due : AreSpots (size_of w.entered) w.due.items

-- How it changes

-- what is due of the active object or the result
abbrev pub root_due : Path → ℕ → ℕ → Due
root_due path place depth = record { path = path; spot = record { home = 0; cell = place }; depth = depth }

abbrev pub result_due : Option ℕ → ℕ → List Due
result_due None depth = []
result_due (Some place) depth = root_due (codes "value") place depth ∷ []

-- what is due at first, the last of these first
abbrev pub roots_due : State → ℕ → List Due
roots_due s depth = result_due s.result depth ++ root_due (codes "self") s.active depth ∷ []

-- a place was shown, by one line
pub record Shows (s : State) (d : Due) (old new : Walk) : Type 0 where
  pub shown : shown_after s new new.due.items ≡ shown_after s old (old.due.items ++ d ∷ [])
  pub line : length new.lines.items ≡ suc (length old.lines.items)

-- what is below a place is due behind the others
abbrev pub IsExpanded : Side → Due → (old new : Entered) → List Due → List Due → Type 0
IsExpanded a d old new ds es = all_pending new es ≡ all_pending new ds ++ reverse (pending_below d.depth a d.path (place_of old d.spot))
