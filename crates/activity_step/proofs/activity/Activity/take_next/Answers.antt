use Rattle.activity_step.specs.Activities.{IsRunning}
use Rattle.activity_step.proofs.RunLemmas.{next_of}
use Rattle.activity_step.proofs.activity.Activity.take_next.Goals as goal

pub returns-clause-next : goal.returns-clause-next
returns-clause-next c = λ a h.
    let run : IsRunning c.quick.new.self a c.in_ok-taken.taken = c.in_ok-taken.ensures.taken a h in
    next_of c.take.new.self a run.here c.in_ok-taken.taken c.in_ok-advance.advance run.run (c.in_ok-advance.ensures.after run.here run.stands)
