-- The events of a commit: those of the reduction behind what the lease took, if there is one.
use Rattle.std.specs.Prelude.{◌≡◌, ℕ, suc, [], None}
use Rattle.asp_model.specs.Names.{Name}
use Rattle.asp_model.specs.Configuration.{Activity, Configuration}
use Rattle.asp_model.specs.Intent.{Acts, Effect}
use Rattle.asp_model.specs.Step.{intent_in}
use Rattle.asp_model.specs.History.{Committed}
use Rattle.def_journals.specs.Journals.{RunShape}
use Rattle.def_journals.specs.Owed.{need_to}
use Rattle.def_journals.specs.Passing.{effect_events, entry_events}
use Rattle.law_core.specs.Commits.{HasRun, with_activity}

-- contractions that need no other have none
abbrev pub RunsAreSilent : Type 0
RunsAreSilent = (s : RunShape) (k grant : ℕ) (n : Name) (r : ℕ) (b : Activity) → HasRun s k grant n r b
    → entry_events (Committed k r) s ≡ []

-- and with the reduction that it intends then, where it has no need, they are those of its effect
abbrev pub ActsAreEvents : Type 0
ActsAreEvents = (s : RunShape) (k grant : ℕ) (n : Name) (r : ℕ) (b : Activity) (e : Effect) → HasRun s k grant n r b
    → let c : Configuration = with_activity n b s.configuration in
    need_to c n ≡ None → intent_in c n ≡ Acts e → entry_events (Committed k (suc r)) s ≡ effect_events n [] e
