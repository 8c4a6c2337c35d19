use Rattle.law_core.proofs.CommitLemmas.{acts_are_commits}
use Rattle.law_core.proofs.commits.acts_are_commits.Goals as goal

pub returns : goal.returns
returns c = acts_are_commits
