use Rattle.asp_core.proofs.EndOfRunLemmas.{are_apart, stand_home}
use Rattle.asp_core.proofs.gathering.end.Goals as goal

pub activities_of-activities-requires-clause-apart : goal.activities_of-activities-requires-clause-apart
activities_of-activities-requires-clause-apart c = let r = c.requires.home in are_apart r.0 r.1 c.args.state r.2 r.3

pub run_end_of-requires : goal.run_end_of-requires
run_end_of-requires c =
    let r = c.requires.home in
    record { sound = (r.2.configuration, stand_home r.0 r.1 c.args.state r.2 r.3 c.in-Ok.activities c.in-Ok.ensures.all) }

pub returns-in-Ok-clause-end : goal.returns-in-Ok-clause-end
returns-in-Ok-clause-end c = λ h code s home.
    c.run_end_of.ensures.end s.configuration (stand_home h code c.args.state s home c.in-Ok.activities c.in-Ok.ensures.all)

pub returns-in-Ok-clause-outcome : goal.returns-in-Ok-clause-outcome
returns-in-Ok-clause-outcome c = λ h code s home.
    c.run_end_of.ensures.outcome s.configuration (stand_home h code c.args.state s home c.in-Ok.activities c.in-Ok.ensures.all)
