use Rattle.std.proofs.Common.{◌≡◌, ◌≤◌, ◌-◌}
use Rattle.asp_model.specs.Configuration as model
use Rattle.activity_step.specs.Activities.{IsRunning, StandsFor}
use Rattle.activity_step.specs.Standings.{code_of}
use Rattle.activity_step.proofs.activity.Activity.run.Given as goal

abbrev pub invariant-loop-left : goal.invariant-loop-left
invariant-loop-left l = (l.left ≤ l.most) × ((a : model.Activity) → StandsFor l.fn.self a → IsRunning l.self a (l.most - l.left)) × (code_of l.self ≡ code_of l.fn.self) × (l.self.spent ≡ l.fn.self.spent)

abbrev pub decreases-loop-left : goal.decreases-loop-left
decreases-loop-left l = l.left
