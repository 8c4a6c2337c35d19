use Rattle.std.proofs.Common.{◌≡◌, ◌-◌, List}
use Rattle.asp_model.specs.Term.{Tree}
use Rattle.asp_model.specs.Configuration.{ServiceShape}
use Rattle.step_machine.specs.declared.frames.Focus.TheVariants as focus
use Rattle.step_machine.specs.Standing.{Standing, view_of}
use Rattle.step_machine.proofs.machine.Machine.approach.Given as goal

abbrev pub invariant-loop-done : goal.invariant-loop-done
invariant-loop-done l =
    (t : Tree) (vs : List ServiceShape) → Standing l.nodes (view_of l.fn.self) t vs → l.fn.self.focus ≡ focus.Node l.number l.from l.fn.done
    → Standing l.nodes (view_of l.self) t vs × (l.self.focus ≡ focus.Node l.number l.from l.done)

abbrev pub decreases-loop-done : goal.decreases-loop-done
decreases-loop-done l = l.count - l.done
