use Rattle.checkpoint_makes.proofs.RunningLemmas.{term_runs}
use Rattle.checkpoint_makes.proofs.laws.terms_run.Goals as goal

pub returns : goal.returns
returns c = record { law = term_runs }
