use Rattle.core_state.proofs.TargetLemmas.{nobody_in, seated_away, seated_here}
use Rattle.core_state.proofs.target.find_seated.Goals as goal

pub returns-in_default : goal.returns-in_default
returns-in_default c = record { seated = λ h code s core. nobody_in h code c.args.state.now s core c.args.name.now c.in_default.ensures.found }

pub returns-in-Some-get : goal.returns-in-Some-get
returns-in-Some-get c = record {
  seated = λ h code s core. seated_here h code c.args.state.now s core c.in-Some.number c.args.name.now c.in-Some.ensures.found c.in-Some-get.actor.now c.in-Some-get.ensures.here;
}

pub returns-in-None : goal.returns-in-None
returns-in-None c = record { seated = λ h code s core. seated_away h code c.args.state.now s core c.in-Some.number c.args.name.now c.in-Some.ensures.found c.in-None.ensures.here }
