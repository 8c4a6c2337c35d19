use Rattle.law_classes.proofs.RequestLemmas.{resting_runs_are_full}
use Rattle.law_classes.proofs.classes.resting_runs_are_full.Goals as goal

pub returns : goal.returns
returns c = resting_runs_are_full
