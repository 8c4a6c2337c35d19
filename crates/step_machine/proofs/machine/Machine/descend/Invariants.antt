use Rattle.std.proofs.Common.{List}
use Rattle.asp_model.specs.Term.{Tree}
use Rattle.asp_model.specs.Configuration.{ServiceShape}
use Rattle.step_machine.specs.Standing.{Standing, view_of}
use Rattle.step_machine.specs.Views.{IsInner, depth}
use Rattle.step_machine.proofs.machine.Machine.descend.Given as goal

abbrev pub invariant-loop-self : goal.invariant-loop-self
invariant-loop-self l =
    (t : Tree) (vs : List ServiceShape) → Standing l.nodes (view_of l.fn.self) t vs → IsInner l.fn.self.focus → Standing l.nodes (view_of l.self) t vs × IsInner l.self.focus

abbrev pub decreases-loop-self : goal.decreases-loop-self
decreases-loop-self l = depth l.self.focus
