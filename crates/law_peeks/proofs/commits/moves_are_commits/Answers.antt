use Rattle.law_peeks.proofs.EntryLemmas.{moves_are_commits}
use Rattle.law_peeks.proofs.commits.moves_are_commits.Goals as goal

pub returns : goal.returns
returns c = moves_are_commits
