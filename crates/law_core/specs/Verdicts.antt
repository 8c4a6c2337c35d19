-- When a verdict is told, and which.
use Rattle.std.specs.Prelude.{◌≡◌, ◌⊎◌, ℕ, true, false, List, [], Some, None, is_some}
use Rattle.asp_model.specs.Status.{verdict_of}
use Rattle.asp_model.specs.History.{ChoiceShape}
use Rattle.def_journals.specs.Edges.{HoldersShape}
use Rattle.def_journals.specs.Journals.{RunShape}
use Rattle.def_journals.specs.Owed.{is_any, next_owed, verdict_told}
use Rattle.law_steps.specs.Sound.{IsSound}
use Rattle.law_journals.specs.Numbered.{AreNumbered}
use Rattle.law_core.specs.Runs.{is_ready}

-- nobody is out, nothing is owed, and nobody is ready
pub record IsOver (s : RunShape) (h : HoldersShape) (answers : List ChoiceShape) : Type 0 where
  pub back : s.out ≡ []
  pub owed : next_owed s h answers ≡ None
  pub ready : (k : ℕ) → is_ready s k ≡ false

-- then the definition's verdict is told
abbrev pub VerdictsAreTold : Type 0
VerdictsAreTold = (s : RunShape) (h : HoldersShape) (answers : List ChoiceShape)
    → IsSound s.configuration → AreNumbered s
    → IsOver s h answers → verdict_told s h answers ≡ Some (verdict_of s.configuration)

-- and else none
abbrev pub VerdictsAreHeld : Type 0
VerdictsAreHeld = (s : RunShape) (h : HoldersShape) (answers : List ChoiceShape)
    → IsSound s.configuration
    → (is_any s.out ≡ true) ⊎ ((is_some (next_owed s h answers) ≡ true) ⊎ ((k : ℕ) × (is_ready s k ≡ true)))
    → verdict_told s h answers ≡ None
