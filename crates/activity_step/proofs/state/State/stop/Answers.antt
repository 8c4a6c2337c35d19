use Rattle.activity_step.proofs.state.State.stop.Goals as goal

pub returns-in-Node : goal.returns-in-Node
returns-in-Node c = record { stop = λ t vs s ls h. c.stop_redex.ensures.stop t vs s ls h c.in-Node.is }

pub returns-in-Place : goal.returns-in-Place
returns-in-Place c = record { stop = λ t vs s ls h. c.stop_place.ensures.stop c.args.code.now t vs s ls h c.in-Place.is }
