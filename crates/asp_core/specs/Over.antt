-- When nothing is left to do for a core, and when its verdict is there.
use Rattle.std.specs.Prelude.{◌≡◌, ℕ, true, false, [], None, is_some}
use Rattle.def_journals.specs.Journals.{RunShape, out_but}
use Rattle.law_core.specs.Runs.{is_ready}
use Rattle.asp_core.specs.declared.cores.Core.{Core}
use Rattle.asp_core.specs.Cores.{IsRun}
use Rattle.asp_core.specs.Calls.{owed_next, verdict_of}

module _ {P : Type 0} where
  -- nobody is out by its run but the activity of this number
  abbrev pub IsHomeBut : Core P → ℕ → Type 0
  IsHomeBut x k = (s : RunShape) → IsRun x s → out_but k s.out ≡ []

  -- it is not spent, and the activity of this number may be lent
  abbrev pub MayBeLent : Core P → ℕ → Type 0
  MayBeLent x k = (s : RunShape) × IsRun x s × (is_ready s k ≡ true)

  -- it is not spent, and nothing is left to do: nothing is owed, and nobody may be lent
  pub record HasNothingToDo (x : Core P) : Type 0 where
    pub run : RunShape
    pub is : IsRun x run
    pub owed : (s : RunShape) → IsRun x s → owed_next x s ≡ None
    pub ready : (s : RunShape) → IsRun x s → (k : ℕ) → is_ready s k ≡ false

  -- it is not spent, and tells its verdict
  pub record IsOver (x : Core P) : Type 0 where
    pub run : RunShape
    pub is : IsRun x run
    pub told : (s : RunShape) → IsRun x s → is_some (verdict_of x s) ≡ true
