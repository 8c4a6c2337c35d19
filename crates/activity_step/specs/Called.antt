-- What a call of operands leads to.
use Rattle.std.specs.Prelude.{◌≡◌, ℕ, List, ◌∷◌}
use Rattle.asp_model.specs.Names.{Text}
use Rattle.code_table.specs.declared.code.Node.{Node}
use Rattle.code_table.specs.Cells.{CodedStore, cell_at}
use Rattle.step_rows.specs.declared.calls.Callee.{Callee}
use Rattle.step_rows.specs.Decisions.{IsCallee}

-- the receiver, then the arguments
pub record IsCalled (k : List Node) (s : CodedStore) (l : Text) (operands : List ℕ) (c : Callee) : Type 0 where
  pub at : ℕ
  pub arguments : List ℕ
  pub operands_are : operands ≡ at ∷ arguments
  pub callee : IsCallee k (cell_at s at) l at arguments c
