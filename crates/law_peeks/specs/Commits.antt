-- What a lease did that read values, as the entries that its commit makes.
use Rattle.std.specs.Prelude.{◌≡◌, ◌≤◌, ◌-◌, ℕ, suc, List, [], ◌∷◌, Some, map}
use Rattle.asp_model.specs.Names.{Name}
use Rattle.asp_model.specs.Configuration.{Activity, Configuration}
use Rattle.asp_model.specs.Intent.{Effect, Acts}
use Rattle.asp_model.specs.Step.{intent_in, name_at, with_effect}
use Rattle.asp_model.specs.History.{EntryShape, Committed, Delivered, Need}
use Rattle.def_journals.specs.Journals.{RunShape, all_entered, entered, grant_of}
use Rattle.law_steps.specs.Reached.{IsAt}
use Rattle.law_journals.specs.Numbered.{AreNumbered}
use Rattle.law_paths.specs.Whole.{IsWhole}
use Rattle.law_core.specs.Commits.{made_by, returned, with_activity}
use Rattle.law_peeks.specs.Needs.{Peek}
use Rattle.law_peeks.specs.Moves.{AreConfirmed, IsMoved, LeaseMove, contractions, peeks, trailing}

-- an activity that is out was led here, and each value that was read is its future's own now
pub record HasMoved (s : RunShape) (k grant : ℕ) (n : Name) (ms : List LeaseMove) (b : Activity) : Type 0 where
  pub whole : IsWhole s.configuration
  pub numbered : AreNumbered s
  pub named : name_at s.names k ≡ Some n
  pub out : grant_of k s.out ≡ Some grant
  pub activity : Activity
  pub there : IsAt s.configuration n activity
  pub moved : IsMoved ms activity b
  pub confirmed : AreConfirmed s.configuration.futures (peeks ms)

-- a value that was read, as a delivery where it was needed
abbrev pub need_entry : Name → Peek → EntryShape
need_entry n x = Delivered (Need x.future n x.place)

-- the commit of the contractions, and a need for each value that was read behind the last of them
abbrev pub entries_of : ℕ → Name → List LeaseMove → List EntryShape
entries_of k n ms = Committed k (contractions ms) ∷ map (need_entry n) (trailing ms)

-- these entries are lawful, and lead to the activity that comes back
abbrev pub MovesAreCommits : Type 0
MovesAreCommits = (s : RunShape) (k grant : ℕ) (n : Name) (ms : List LeaseMove) (b : Activity)
    → HasMoved s k grant n ms b → contractions ms ≤ grant → let c : Configuration = with_activity n b s.configuration in
    all_entered (entries_of k n ms) s ≡ Some (returned s k (grant - contractions ms) c [])

-- with the reduction that it intends then, a communication or another, the commit alone is lawful, and no need follows
abbrev pub MovesAndActsAreCommits : Type 0
MovesAndActsAreCommits = (s : RunShape) (k grant : ℕ) (n : Name) (ms : List LeaseMove) (b : Activity) (e : Effect)
    → HasMoved s k grant n ms b → let r : ℕ = suc (contractions ms) in r ≤ grant
    → let c : Configuration = with_activity n b s.configuration in intent_in c n ≡ Acts e
    → entered (Committed k r) s ≡ Some (returned s k (grant - r) (with_effect n e c) (made_by e.made))
