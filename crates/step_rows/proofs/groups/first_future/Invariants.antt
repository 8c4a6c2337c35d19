use Rattle.std.proofs.Common.{◌≡◌, List, drop}
use Rattle.asp_model.specs.Contraction.{first_future}
use Rattle.code_table.specs.declared.code.Node.{Node}
use Rattle.code_table.specs.Places.{placed}
use Rattle.code_table.specs.Shapes.{store_of}
use Rattle.step_rows.proofs.groups.first_future.Given as goal

abbrev pub invariant-loop-at : goal.invariant-loop-at
invariant-loop-at l = (k : List Node) → let S = store_of k l.store.cells in first_future S (placed l.places) ≡ first_future S (drop l.at (placed l.places))
