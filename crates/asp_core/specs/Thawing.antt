-- Where a core may go on.
use Rattle.std.specs.Prelude.{◌≡◌, ◌+◌, ◌<◌, ◌^◌, ℕ, Some}
use Rattle.asp_model.specs.History.{FirstShape}
use Rattle.law_journals.specs.Budgets.{spent_in}
use Rattle.law_journals.specs.Numbered.{IsFirst}
use Rattle.law_paths.specs.Whole.{IsWhole}
use Rattle.asp_core.specs.Frozen.{StandsIn}
use Rattle.asp_core.specs.declared.first.First.{First}
use Rattle.asp_core.specs.declared.freezing.Frozen.{Frozen}

-- a run may begin in this configuration, and what was frozen stands in it; its counts and the budget are no more than
-- can be counted
pub record MayBegin (x : Frozen) (f : FirstShape) (budget : ℕ) : Type 0 where
  pub first : IsFirst f
  pub whole : IsWhole f.configuration
  pub stands : StandsIn x f
  pub small : spent_in f.configuration + budget < 2 ^ 64

abbrev pub MayBeginSomewhere : Frozen → ℕ → Type 0
MayBeginSomewhere x budget = (f : FirstShape) × MayBegin x f budget

-- it is where this says
abbrev pub BeginsIn : Frozen → First → ℕ → Type 0
BeginsIn x first budget = (f : FirstShape) × (first.shape ≡ Some f) × MayBegin x f budget
