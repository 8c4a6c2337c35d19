use Rattle.std.proofs.Common.{List, take}
use Rattle.law_steps.specs.Linked.{Each}
use Rattle.code_table.specs.declared.code.Node.{Node}
use Rattle.code_table.specs.Shapes.{store_of}
use Rattle.step_activity.specs.Clear.{IsClear}
use Rattle.code_table.specs.Places.{placed}
use Rattle.step_activity.proofs.held.clear_from.Given as goal

abbrev pub invariant-loop-at : goal.invariant-loop-at
invariant-loop-at l = (k : List Node) → let S = store_of k l.store.cells in Each (IsClear S) (take l.from (placed l.places)) → Each (IsClear S) (take l.at (placed l.places))
