-- What alike configurations have in common, and what a family complete by classes says of each run.
use Rattle.std.specs.Prelude.{◌≡◌, ◌≤◌, ℕ, suc, List, Some, None}
use Rattle.asp_model.specs.Names.{Name, Text}
use Rattle.asp_model.specs.Term.{Tree}
use Rattle.asp_model.specs.Configuration.{Configuration, start}
use Rattle.asp_model.specs.Status.{IsStuck, status_of}
use Rattle.asp_model.specs.Step.{ListsShape, step}
use Rattle.asp_model.specs.Replay.{CountsShape, counts_of, total, replay, Fits}
use Rattle.def_paths.specs.Outcomes.{whole_outcome_of}
use Rattle.law_steps.specs.Reached.{IsReached, RunsTo}
use Rattle.law_services.specs.Correct.{unlogged}
use Rattle.law_classes.specs.Alike.{AreAlike, AsksInClass}
use Rattle.law_classes.specs.Families.{ClassEnd, Has, IsComplete}

-- where an activity asks in one class, its step in one configuration is one in each that is alike
abbrev pub AlikeSteps : Type 0
AlikeSteps = (K : Text → ℕ) (program : Tree) (c d x : Configuration) (n : Name)
    → IsReached program c → IsReached program d → AreAlike K c d → AsksInClass K c n
    → step None c n ≡ Some x → (y : Configuration) × (step None d n ≡ Some y) × AreAlike K x y

-- and it stands the same in both
abbrev pub AlikeStatuses : Type 0
AlikeStatuses = (K : Text → ℕ) (c d : Configuration) (n : Name)
    → AreAlike K c d → AsksInClass K c n → status_of c n ≡ status_of d n

-- so outcomes, with every state, are equal but for the logs
abbrev pub AlikeOutcomes : Type 0
AlikeOutcomes = (K : Text → ℕ) (program : Tree) (c d : Configuration)
    → IsReached program c → IsReached program d → AreAlike K c d → ((n : Name) → AsksInClass K d n)
    → unlogged (whole_outcome_of c) ≡ unlogged (whole_outcome_of d)

-- steps lead on from the configuration to one that is alike with an end
pub record LeadsOn (K : Text → ℕ) (ends : List ClassEnd) (c : Configuration) : Type 0 where
  pub end : ClassEnd
  pub has : Has ends end
  pub more : List Name
  pub last : Configuration
  pub run : RunsTo None c more last
  pub alike : AreAlike K last end.0

-- each run of the program, at each point, leads on to what is alike with one of the ends
abbrev pub RunsLeadOn : Type 0
RunsLeadOn = (K : Text → ℕ) (program : Tree) (ends : List ClassEnd) (names : List Name) (c : Configuration)
    → IsComplete K program ends → RunsTo None (start program) names c → LeadsOn K ends c

-- alike with one of the ends, and so of its outcome but for the logs
abbrev pub IsAlikeWithEnd : (Text → ℕ) → List ClassEnd → Configuration → Type 0
IsAlikeWithEnd K ends c = (x : ClassEnd) × Has ends x × AreAlike K c x.0
    × (unlogged (whole_outcome_of c) ≡ unlogged (whole_outcome_of x.0))

-- and each that is stuck is alike with one of them
abbrev pub StuckRunsAreAlike : Type 0
StuckRunsAreAlike = (K : Text → ℕ) (program : Tree) (ends : List ClassEnd) (names : List Name) (c : Configuration)
    → IsComplete K program ends → RunsTo None (start program) names c → IsStuck c → IsAlikeWithEnd K ends c

-- one of the ends has as many reductions, and more where somebody can step
abbrev pub IsWithinLongest : List ClassEnd → Configuration → Type 0
IsWithinLongest ends c = (x : ClassEnd) × Has ends x × (total (counts_of c) ≤ total (counts_of x.0))
    × ((IsStuck c → ⊥) → suc (total (counts_of c)) ≤ total (counts_of x.0))

-- so no run takes more reductions than the longest of them
abbrev pub RunsEnd : Type 0
RunsEnd = (K : Text → ℕ) (program : Tree) (ends : List ClassEnd) (names : List Name) (c : Configuration)
    → IsComplete K program ends → RunsTo None (start program) names c → IsWithinLongest ends c

-- and so it is with the replay of all lists and counts that fit the program, as those of each report do
abbrev pub FittingAreWithin : Type 0
FittingAreWithin = (K : Text → ℕ) (program : Tree) (ends : List ClassEnd) (lists : ListsShape) (counts : CountsShape)
    → IsComplete K program ends → Fits program lists counts
    → let c : Configuration = replay program lists counts in
    IsWithinLongest ends c × (IsStuck c → IsAlikeWithEnd K ends c)
