use Rattle.law_peeks.proofs.EntryLemmas.{moves_and_acts_are_commits}
use Rattle.law_peeks.proofs.commits.moves_and_acts_are_commits.Goals as goal

pub returns : goal.returns
returns c = moves_and_acts_are_commits
