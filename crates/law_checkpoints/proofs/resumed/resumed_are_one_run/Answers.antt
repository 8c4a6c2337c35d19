use Rattle.law_checkpoints.proofs.ResumeLemmas.{resumed_are_one_run}
use Rattle.law_checkpoints.proofs.resumed.resumed_are_one_run.Goals as goal

pub returns : goal.returns
returns c = resumed_are_one_run
