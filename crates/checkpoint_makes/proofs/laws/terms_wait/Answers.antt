use Rattle.checkpoint_makes.proofs.RunningLemmas.{term_waits}
use Rattle.checkpoint_makes.proofs.laws.terms_wait.Goals as goal

pub returns : goal.returns
returns c = record { law = term_waits }
