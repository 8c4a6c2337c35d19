use Rattle.std.proofs.Common.{◌∙◌}
use Rattle.step_machine.specs.Standing.{view_of}
use Rattle.activity_step.specs.Places.{mark_in}
use Rattle.activity_step.proofs.activity.Activity.mark.Goals as goal

pub returns : goal.returns
returns c = record {
  place = λ a h. (view_of c.args.self.now.state.machine, h.state.machine, c.mark_in.ensures.mark ∙ (λ i. mark_in ((c.nodes.ensures.nodes ∙ c.deref.ensures) i) (c.looked_at.ensures.node i)));
}
