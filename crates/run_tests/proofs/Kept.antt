-- A core that was begun or driven, or whose verdict is there, is the run of its journal.
use Rattle.std.proofs.Common.{ℕ, List}
use Rattle.asp_model.specs.Term.{Tree}
use Rattle.def_journals.specs.Journals.{RunShape}
use Rattle.asp_core.specs.declared.cores.Core.{Core}
use Rattle.asp_core.specs.Cores.{IsKept, IsRun}
use Rattle.core_drives.specs.Driven.{IsDriven}
use Rattle.core_drives.specs.Steps.{StepShape}
use Rattle.asp_core.specs.Over.{IsOver}

module _ {P : Type 0} where
  pub run_kept : (run : RunShape) (x : Core P) → IsRun x run → IsKept x
  run_kept run x is = λ fresh. (run, is)

  pub driven_kept : (program : Tree) (budget : ℕ) (steps : List StepShape) (x : Core P) → IsDriven program budget steps x → IsKept x
  driven_kept program budget steps x is = λ fresh. (is.run, is.is)

  pub over_kept : (x : Core P) → IsOver x → IsKept x
  over_kept x over = λ fresh. (over.run, over.is)
