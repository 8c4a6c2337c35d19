use Rattle.law_paths.proofs.ReplayLemmas.{narrow_runs_are_alone}
use Rattle.law_paths.proofs.correct.narrow_runs_are_alone.Goals as goal

pub returns : goal.returns
returns c = narrow_runs_are_alone
