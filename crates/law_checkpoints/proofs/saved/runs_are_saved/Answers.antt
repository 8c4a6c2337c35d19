use Rattle.law_checkpoints.proofs.AgainLemmas.{runs_are_saved}
use Rattle.law_checkpoints.proofs.saved.runs_are_saved.Goals as goal

pub returns : goal.returns
returns c = runs_are_saved
