use Rattle.std.proofs.Common.{List, drop}
use Rattle.asp_model.specs.Configuration.{ServiceShape}
use Rattle.asp_model.specs.Split.{Context}
use Rattle.code_table.specs.declared.code.Node.{Node}
use Rattle.step_machine.specs.Services.{Below}
use Rattle.step_machine.specs.Standing.{view_of}
use Rattle.frozen_code.specs.Restoring.{HasSome, HoldAll}
use Rattle.frozen_code.proofs.restoring.hold_all.Given as goal

abbrev pub invariant-loop-held : goal.invariant-loop-held
invariant-loop-held l =
    (k : List Node) (vs : List ServiceShape) (cs : List Context) (b : Below k (view_of l.fn.machine) vs)
    → HoldAll k l.helds cs → HasSome k (drop l.held-index l.helds) (view_of l.fn.machine) (view_of l.machine) vs b cs
