-- The state of an activity, once its code is whole.
use Rattle.std.specs.Prelude.{List, reverse}
use Rattle.asp_model.specs.Configuration.{ServiceShape}
use Rattle.asp_model.specs.Contraction.{LineShape}
use Rattle.asp_model.specs.Store.{CellShape}
use Rattle.asp_model.specs.Term.{Tree}
use Rattle.code_compiler.specs.Compiled.{Grows}
use Rattle.code_table.specs.declared.code.Node.{Node}
use Rattle.activity_step.specs.Advances.{Stands}
use Rattle.activity_step.specs.declared.state.State.{State}
use Rattle.checkpoint_makes.specs.Later.{Later}

-- it stands for this term, these services, oldest first, these cells and this output
pub record IsMadeState (ns ms : List Node) (x : State) (t : Tree) (vs : List ServiceShape) (cs : List CellShape)
    (ls : List LineShape) : Type 0 where
  pub grows : Grows ns ms
  pub made : Later ms (λ k. Stands k x t (reverse vs) cs ls)
