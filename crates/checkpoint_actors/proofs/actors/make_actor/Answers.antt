use Rattle.std.proofs.Common.{refl}
use Rattle.std.specs.Arc.{arc_value}
use Rattle.checkpoint_actors.specs.Actors.{IsActorOf}
use Rattle.checkpoint_actors.proofs.ActorLemmas.{actor_of}
use Rattle.checkpoint_actors.proofs.actors.make_actor.Goals as goal

pub returns : goal.returns
returns c = record {
  actor = λ f x made count.
      let is : IsActorOf (arc_value c.args.code.now) f x (c.args.activity.name, c.in_ok-new.field-0)
      = actor_of (arc_value c.in_ok-code.code) (arc_value c.args.code.now) f x c.args.activity c.args.answered c.in_ok-queue.queue c.restored-activity.result c.restored-actor.result (c.args.activity.name, c.in_ok-new.field-0) made count
      c.in_ok-code.ensures c.in_ok-queue.ensures.holds c.restored-activity.ensures.stands c.restored-activity.ensures.code c.restored-actor.ensures.stands c.restored-actor.ensures.log c.restored-actor.ensures.code refl c.in_ok-new.ensures.ok in
      is;
}
