-- What a lease took, as the entry that its commit makes.
use Rattle.std.specs.Prelude.{◌≡◌, ℕ, suc, ◌+◌, ◌-◌, ◌≤◌, List, [], ◌∷◌, ◌++◌, Option, Some, None}
use Rattle.std.specs.FinMap.{put}
use Rattle.asp_model.specs.Names.{Name, name_cmp}
use Rattle.asp_model.specs.Configuration.{Activity, Configuration}
use Rattle.asp_model.specs.Intent.{Effect, Acts}
use Rattle.asp_model.specs.Step.{intent_in, name_at, with_effect}
use Rattle.asp_model.specs.History.{Committed}
use Rattle.def_journals.specs.Journals.{RunShape, entered, grant_of, out_but}
use Rattle.law_steps.specs.Reached.{IsAt}
use Rattle.law_steps.specs.Sound.{IsSound}
use Rattle.activity_step.specs.Local.{LocalRun}

abbrev pub with_activity : Name → Activity → Configuration → Configuration
with_activity n a c = record c { activities = put name_cmp n a c.activities }

-- an activity that is out took so many contractions that need no other, which lead it here
pub record HasRun (s : RunShape) (k grant : ℕ) (n : Name) (r : ℕ) (b : Activity) : Type 0 where
  pub sound : IsSound s.configuration
  pub named : name_at s.names k ≡ Some n
  pub out : grant_of k s.out ≡ Some grant
  pub activity : Activity
  pub there : IsAt s.configuration n activity
  pub run : LocalRun r activity b

-- it comes in, with those whom it made, in a configuration, and the rest of its grant is left
abbrev pub returned : RunShape → ℕ → ℕ → Configuration → List Name → RunShape
returned s k rest d made = record { configuration = d; names = s.names ++ made; left = s.left + rest; out = out_but k s.out }

-- whom an effect makes
abbrev pub made_by : Option (Name × Activity) → List Name
made_by None = []
made_by (Some x) = x.0 ∷ []

-- its contractions alone are a commit
abbrev pub RunsAreCommits : Type 0
RunsAreCommits = (s : RunShape) (k grant : ℕ) (n : Name) (r : ℕ) (b : Activity) → HasRun s k grant n r b → r ≤ grant
    → entered (Committed k r) s ≡ Some (returned s k (grant - r) (with_activity n b s.configuration) [])

-- and so are they with the reduction that it intends then, a communication or another
abbrev pub ActsAreCommits : Type 0
ActsAreCommits = (s : RunShape) (k grant : ℕ) (n : Name) (r : ℕ) (b : Activity) (e : Effect) → HasRun s k grant n r b → suc r ≤ grant
    → let c : Configuration = with_activity n b s.configuration in intent_in c n ≡ Acts e
    → entered (Committed k (suc r)) s ≡ Some (returned s k (grant - suc r) (with_effect n e c) (made_by e.made))
