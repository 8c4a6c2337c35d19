use Rattle.activity_step.proofs.state.State.quick_other.Goals as goal

pub returns-in-Asked : goal.returns-in-Asked
returns-in-Asked c = record { taken = λ t vs s ls h. c.quick_asked.ensures.taken t vs s ls h c.in-Asked.is }
