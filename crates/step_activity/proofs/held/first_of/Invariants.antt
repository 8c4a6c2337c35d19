use Rattle.std.proofs.Common.{◌≡◌, List, None, drop, take}
use Rattle.asp_model.specs.Contraction.{first_future}
use Rattle.code_table.specs.declared.code.Node.{Node}
use Rattle.code_table.specs.Shapes.{store_of}
use Rattle.code_table.specs.Places.{placed}
use Rattle.step_activity.proofs.held.first_of.Given as goal

abbrev pub invariant-loop-at : goal.invariant-loop-at
invariant-loop-at l = (k : List Node) → let S = store_of k l.store.cells in first_future S (take l.from (placed l.places)) ≡ None → first_future S (placed l.places) ≡ first_future S (drop l.at (placed l.places))
