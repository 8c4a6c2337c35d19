use Rattle.run_waits.proofs.WaitLemmas.{filled_none, receiver_none, receiver_number}
use Rattle.run_waits.proofs.waits.receiver.Goals as goal

pub returns-in-Some-clause-waits : goal.returns-in-Some-clause-waits
returns-in-Some-clause-waits c d n told st = filled_none d _ _ _ n c.args.future.now _ told st c.in-Some.ensures.value

pub returns-in-Some-target-clause-waits : goal.returns-in-Some-target-clause-waits
returns-in-Some-target-clause-waits c d n told st = receiver_number d _ _ _ n c.args.future.now c.in-Some-target.target.now c.number_of.result told st c.in-None.ensures.value c.in-Some-target.ensures.target c.number_of.ensures.found c.number_of.ensures.none

pub returns-in-None-target-clause-waits : goal.returns-in-None-target-clause-waits
returns-in-None-target-clause-waits c d n told st = receiver_none d _ _ _ n c.args.future.now told st c.in-None.ensures.value c.in-None-target.ensures.target
