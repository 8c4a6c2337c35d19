use Rattle.law_core.proofs.CommitLemmas.{runs_are_commits}
use Rattle.law_core.proofs.commits.runs_are_commits.Goals as goal

pub returns : goal.returns
returns c = runs_are_commits
