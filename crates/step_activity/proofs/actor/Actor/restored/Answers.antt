use Rattle.step_activity.proofs.ClearLemmas.{first_clear}
use Rattle.step_activity.proofs.actor.Actor.restored.Goals as goal

pub returns-clause-stands : goal.returns-clause-stands
returns-clause-stands c = λ a rs stands sends creations q. record {
  activity = stands;
  sends = sends;
  creations = creations;
  queue = record { pending = q.pending; arrived = q.arrived; below = q.below; coded = q.coded };
  clear = first_clear a;
}
