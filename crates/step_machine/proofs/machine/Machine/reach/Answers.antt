use Rattle.step_machine.proofs.machine.Machine.reach.Goals as goal

pub returns-in-Some : goal.returns-in-Some
returns-in-Some c = record { site = λ t vs h. c.reach_from.ensures.site t vs h c.in-Some.ensures.some }
