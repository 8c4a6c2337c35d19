use Rattle.activity_step.specs.Standings.{IsAt}
use Rattle.step_activity.specs.declared.actor.Actor.{Actor}
use Rattle.step_activity.proofs.PassingLemmas.{looked_on}
use Rattle.step_activity.proofs.RedexLemmas.{is_at}
use Rattle.step_activity.proofs.actor.Actor.clear_now.Goals as goal

pub returns-in-Ok-Redex : goal.returns-in-Ok-Redex
returns-in-Ok-Redex c = record {
  clear = λ a for h.
      let x : Actor = c.args.self.now in
      let at : IsAt a c.in-Ok-Redex.redex = is_at a c.in-Ok-Redex.field-0 c.in-Ok-Redex.redex c.in-Ok-Redex.field-0-is (c.in-Ok-Redex.ensures.standing a for) in
      looked_on x a c.in-Ok-Redex.redex at for c.store.result.now c.store.ensures.store c.strict_of.result c.strict_of.ensures.strict x.clear c.clear_at.result c.clear_at.ensures.clear h;
}
