-- What a lease did that comes back, by its notes: the entries that its commit makes, and their events.
use Rattle.std.specs.Prelude.{◌≡◌, ◌≤◌, ◌-◌, ℕ, suc, List, [], ◌∷◌, Some, None, map}
use Rattle.asp_model.specs.Names.{Name}
use Rattle.asp_model.specs.Configuration.{Activity, Configuration}
use Rattle.asp_model.specs.Intent.{Effect, Acts}
use Rattle.asp_model.specs.Step.{intent_in, with_effect}
use Rattle.asp_model.specs.History.{Committed, EntryShape}
use Rattle.def_journals.specs.Journals.{RunShape, all_entered, entered}
use Rattle.def_journals.specs.Owed.{need_to}
use Rattle.def_journals.specs.Passing.{effect_events, entry_events, events_from, receives}
use Rattle.law_core.specs.Commits.{made_by, returned, with_activity}
use Rattle.law_peeks.specs.Needs.{Peek}
use Rattle.law_peeks.specs.Moves.{LeaseMove, contractions}
use Rattle.law_peeks.specs.Noted.{noted, noted_at}
use Rattle.law_peeks.specs.Commits.{HasMoved, need_entry}
use Rattle.law_peeks.specs.Events.{values_of}

-- an activity that is out took so many contractions and read what is noted, and that led it here
pub record HasRead (s : RunShape) (k grant : ℕ) (n : Name) (r : ℕ) (notes : List (ℕ × Peek)) (b : Activity) : Type 0 where
  pub moves : List LeaseMove
  pub moved : HasMoved s k grant n moves b
  pub count : contractions moves ≡ r
  pub told : noted moves ≡ notes

-- all that is noted, in order
abbrev pub read_in : List (ℕ × Peek) → List Peek
read_in = map (λ y. y.1)

-- its commit, and a need for each value that is noted behind all contractions
abbrev pub commit_of : ℕ → Name → ℕ → List (ℕ × Peek) → List EntryShape
commit_of k n r notes = Committed k r ∷ map (need_entry n) (noted_at r notes)

-- these entries are lawful, and lead to the activity that comes back
abbrev pub ReadsAreCommits : Type 0
ReadsAreCommits = (s : RunShape) (k grant : ℕ) (n : Name) (r : ℕ) (notes : List (ℕ × Peek)) (b : Activity)
    → HasRead s k grant n r notes b → r ≤ grant → let c : Configuration = with_activity n b s.configuration in
    all_entered (commit_of k n r notes) s ≡ Some (returned s k (grant - r) c [])

-- with the reduction that it intends then, the commit alone is lawful
abbrev pub ReadsAndActsAreCommits : Type 0
ReadsAndActsAreCommits = (s : RunShape) (k grant : ℕ) (n : Name) (r : ℕ) (notes : List (ℕ × Peek)) (b : Activity)
    (e : Effect) → HasRead s k grant n r notes b → suc r ≤ grant
    → let c : Configuration = with_activity n b s.configuration in intent_in c n ≡ Acts e
    → entered (Committed k (suc r)) s ≡ Some (returned s k (grant - suc r) (with_effect n e c) (made_by e.made))

-- the activity receives what is noted, in order
abbrev pub ReadsAreEvents : Type 0
ReadsAreEvents = (s : RunShape) (k grant : ℕ) (n : Name) (r : ℕ) (notes : List (ℕ × Peek)) (b : Activity)
    → HasRead s k grant n r notes b → r ≤ grant
    → events_from (commit_of k n r notes) s ≡ map (receives n) (values_of (read_in notes))

-- and with the reduction that it intends then, where it has no need, those of its effect follow
abbrev pub ReadsAndActsAreEvents : Type 0
ReadsAndActsAreEvents = (s : RunShape) (k grant : ℕ) (n : Name) (r : ℕ) (notes : List (ℕ × Peek)) (b : Activity)
    (e : Effect) → HasRead s k grant n r notes b → let c : Configuration = with_activity n b s.configuration in
    need_to c n ≡ None → intent_in c n ≡ Acts e
    → entry_events (Committed k (suc r)) s ≡ effect_events n (values_of (read_in notes)) e
