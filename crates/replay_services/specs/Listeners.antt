-- What a listener keeps of each activity.
use Rattle.std.specs.Prelude.{◌≡◌, ◌⊎◌, ℕ, Bool, true, false, List, [], ◌∷◌, ◌++◌, Option, Some, None, map, slice_get}
use Rattle.indexmap.specs.IndexMap.{IndexMap, get}
use Rattle.std.specs.List.{Contains}
use Rattle.asp_model.specs.Names.{Name, Text, same_name}
use Rattle.asp_model.specs.Services.{ArrivalShape, ServiceEntryShape}
use Rattle.asp_model.specs.Shapes.{arrival_shape, labels_shape}
use Rattle.serve_rules.specs.Labels.{HaveSame}
use Rattle.replay_parts.specs.Notes.{NoteShape}
use Rattle.replay_services.specs.declared.heard.Heard.{Heard}
use Rattle.replay_services.specs.declared.listener.Listener.{Listener}
use Rattle.replay_services.specs.Heard.{asked_by, came_to, has_polled}

-- of one activity: what came, whether it polled, and the labels of its services
pub record HeardShape : Type 0 where
  pub arrivals : List ArrivalShape
  pub polled : Bool
  pub sets : List (List Text)

abbrev pub heard_shape : Heard → HeardShape
heard_shape h = record {
  arrivals = map arrival_shape h.arrivals.items;
  polled = h.polled;
  sets = map labels_shape h.sets.items;
}

abbrev pub nothing : HeardShape
nothing = record { arrivals = []; polled = false; sets = [] }

abbrev pub shape_or_nothing : Option Heard → HeardShape
shape_or_nothing None = nothing
shape_or_nothing (Some h) = heard_shape h

-- what is kept of an activity
abbrev pub kept_in : {S : Type 0} → IndexMap Name Heard S → Name → HeardShape
kept_in m n = shape_or_nothing (get same_name m n)

abbrev pub kept_at : Listener → Name → HeardShape
kept_at l n = kept_in l.heard n

-- at this place
abbrev pub IsKeptAt : Listener → Name → ℕ → Type 0
IsKeptAt l n k = (h : Heard) × (slice_get l.heard.entries k ≡ Some (n, h)) × (get same_name l.heard n ≡ Some h)

-- the entry of an activity
abbrev pub entry_of : Name → HeardShape → ServiceEntryShape
entry_of n h = record { name = n; arrivals = h.arrivals; polled = h.polled; sets = h.sets }

abbrev pub arrived : Name → Text → ArrivalShape
arrived sender label = record { sender = sender; label = label }

-- with a request, or a poll, more
abbrev pub with_arrival : ArrivalShape → HeardShape → HeardShape
with_arrival a h = record h { arrivals = h.arrivals ++ a ∷ [] }

abbrev pub with_poll : HeardShape → HeardShape
with_poll h = record h { polled = true }

-- with these labels among the sets, once more or as before
pub record IsWithSet (labels : List Text) (old new : HeardShape) : Type 0 where
  pub arrivals : new.arrivals ≡ old.arrivals
  pub polled : new.polled ≡ old.polled
  pub there : Contains new.sets labels
  pub more : (ls : List Text) → Contains old.sets ls → Contains new.sets ls
  pub only : (ls : List Text) → Contains new.sets ls → Contains old.sets ls ⊎ (ls ≡ labels)

-- what is kept of this activity changes so, and of no other
abbrev pub ChangesAt : Name → (HeardShape → HeardShape → Type 0) → Listener → Listener → Type 0
ChangesAt m Changes old new = Changes (kept_at old m) (kept_at new m)
    × ((n : Name) → same_name n m ≡ false → kept_at new n ≡ kept_at old n)

-- it is what the notes tell of an activity; the labels of a service in whatever order
pub record IsHeard (n : Name) (xs : List NoteShape) (h : HeardShape) : Type 0 where
  pub arrivals : h.arrivals ≡ came_to n xs
  pub polled : h.polled ≡ has_polled n xs
  pub only : (ls : List Text) → Contains h.sets ls → (os : List Text) × Contains (asked_by n xs) os × HaveSame ls os
  pub sets : (os : List Text) → Contains (asked_by n xs) os → (ls : List Text) × Contains h.sets ls × HaveSame ls os
