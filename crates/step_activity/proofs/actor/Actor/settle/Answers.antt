use Rattle.std.proofs.Common.{refl}
use Rattle.step_activity.specs.declared.actor.Actor.{Actor}
use Rattle.step_activity.proofs.StandLemmas.{stands_with}
use Rattle.step_activity.proofs.actor.Actor.settle.Goals as goal

pub returns-clause-stands : goal.returns-clause-stands
returns-clause-stands c = λ a rs h.
    let x : Actor = c.args.self.now in
    stands_with x c.settle.new.self a a rs h (c.in_ok-settle.ensures.stands a h.activity) c.settle.ensures.code refl refl refl
