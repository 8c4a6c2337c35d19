use Rattle.std.proofs.Common.{subst}
use Rattle.asp_model.specs.Chase.{chase}
use Rattle.step_rows.specs.declared.redex.Redex.{Redex}
use Rattle.step_rows.specs.Redexes.{IsRedex}
use Rattle.future_table.specs.Values.{values_of}
use Rattle.step_activity.proofs.StanceLemmas.{stance_goes}
use Rattle.step_activity.proofs.actor.Actor.redex_stance.Goals as goal

pub returns-in-Goes : goal.returns-in-Goes
returns-in-Goes c = record {
  stance = λ a rs n h.
      let at = c.requires.stands a h.activity in
      stance_goes (chase (values_of c.args.futures.now)) rs n a at.contexts at.redex at.splits (subst (λ (x : Redex). IsRedex at.redex x) c.in-Goes.is at.is);
}
