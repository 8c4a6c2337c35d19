use Rattle.std.proofs.Common.{refl, sym, ◌∙◌}
use Rattle.step_machine.specs.Standing.{view_of}
use Rattle.activity_step.proofs.StandingLemmas.{asked_at}
use Rattle.activity_step.proofs.standing.asked_redex.Goals as goal

pub returns : goal.returns
returns c = record {
  redex = λ k a h at. asked_at k (view_of c.args.machine.now) c.args.count c.in-Some.at c.in-Some.arguments _ a h at refl (sym c.last_operands.ensures.operands ∙ c.in-Some.ensures.first);
}
