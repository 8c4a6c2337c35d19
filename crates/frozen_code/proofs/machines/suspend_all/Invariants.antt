use Rattle.std.proofs.Common.{List, drop}
use Rattle.asp_model.specs.Configuration.{ServiceShape}
use Rattle.code_table.specs.declared.code.Node.{Node}
use Rattle.step_machine.specs.Standing.{view_of}
use Rattle.frozen_code.specs.Restoring.{HasServed, HoldServices, IsBare}
use Rattle.frozen_code.proofs.machines.suspend_all.Given as goal

abbrev pub invariant-loop-suspended : goal.invariant-loop-suspended
invariant-loop-suspended l =
    (k : List Node) (ws vs : List ServiceShape) → IsBare k (view_of l.fn.machine) ws
    → HoldServices k l.services vs → HasServed k (drop l.suspended-index l.services) (view_of l.machine) ws vs
