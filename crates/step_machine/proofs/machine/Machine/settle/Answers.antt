use Rattle.step_machine.proofs.machine.Machine.settle.Goals as goal

pub returns-in-Some : goal.returns-in-Some
returns-in-Some c = record { settled = λ t vs h. c.leave.ensures.settled t vs h c.in-Some.ensures.some }

pub returns-in-None : goal.returns-in-None
returns-in-None c = record { settled = λ t vs h. c.descend.ensures.settled t vs h c.in-None.ensures.none }
