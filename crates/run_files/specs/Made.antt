-- What goes on from a file.
use Rattle.std.specs.Prelude.{◌≡◌, ℕ, Some}
use Rattle.std.specs.Arc.{arc_value}
use Rattle.asp_model.specs.Marked.{Marked, plain}
use Rattle.asp_model.specs.Names.{Text}
use Rattle.law_frozen.specs.Frozen.{FrozenShape, thawed_first}
use Rattle.core_state.specs.Cores.{program_of}
use Rattle.asp_core.specs.Frozen.{StandsIn}
use Rattle.asp_core.specs.declared.first.First.{First}
use Rattle.asp_core.specs.declared.freezing.Frozen.{Frozen}
use Rattle.run_files.specs.Files.{HasRoom, IsReadAs}

-- it was read of the bytes, runs the program, and stands where this says
pub record IsMadeOf (program : Marked) (bytes : Text) (budget : ℕ) (x : Frozen) (first : First) : Type 0 where
  pub frozen : FrozenShape
  pub read : IsReadAs program bytes frozen
  pub within : HasRoom frozen budget
  pub begins : first.shape ≡ Some (thawed_first frozen)
  pub stands : StandsIn x (thawed_first frozen)
  pub runs : program_of (arc_value x.code) ≡ plain program
