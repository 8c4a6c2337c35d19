-- The events of the entries that a lease makes which read values: that it received each of them, in order.
use Rattle.std.specs.Prelude.{◌≡◌, ◌≤◌, ℕ, suc, List, None, map}
use Rattle.asp_model.specs.Names.{FutureShape, Name}
use Rattle.asp_model.specs.Parcel.{ParcelShape}
use Rattle.asp_model.specs.Configuration.{Activity, Configuration}
use Rattle.asp_model.specs.Intent.{Effect, Acts}
use Rattle.asp_model.specs.Step.{intent_in}
use Rattle.asp_model.specs.History.{Committed}
use Rattle.def_journals.specs.Journals.{RunShape}
use Rattle.def_journals.specs.Owed.{need_to}
use Rattle.def_journals.specs.Passing.{effect_events, entry_events, events_from, receives}
use Rattle.law_core.specs.Commits.{with_activity}
use Rattle.law_peeks.specs.Needs.{Peek}
use Rattle.law_peeks.specs.Moves.{LeaseMove, contractions, peeks}
use Rattle.law_peeks.specs.Commits.{HasMoved, entries_of}

-- the futures that were read, each with its value
abbrev pub values_of : List Peek → List (FutureShape × ParcelShape)
values_of = map (λ x. (x.future, x.value))

-- no other event comes of contractions and of what is read
abbrev pub MovesAreEvents : Type 0
MovesAreEvents = (s : RunShape) (k grant : ℕ) (n : Name) (ms : List LeaseMove) (b : Activity)
    → HasMoved s k grant n ms b → contractions ms ≤ grant
    → events_from (entries_of k n ms) s ≡ map (receives n) (values_of (peeks ms))

-- and with the reduction that it intends then, where it has no need, those of its effect follow
abbrev pub MovesAndActsAreEvents : Type 0
MovesAndActsAreEvents = (s : RunShape) (k grant : ℕ) (n : Name) (ms : List LeaseMove) (b : Activity) (e : Effect)
    → HasMoved s k grant n ms b → let c : Configuration = with_activity n b s.configuration in
    need_to c n ≡ None → intent_in c n ≡ Acts e
    → entry_events (Committed k (suc (contractions ms))) s ≡ effect_events n (values_of (peeks ms)) e
