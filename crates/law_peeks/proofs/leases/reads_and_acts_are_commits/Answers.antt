use Rattle.law_peeks.proofs.LeaseLemmas.{reads_and_acts_are_commits}
use Rattle.law_peeks.proofs.leases.reads_and_acts_are_commits.Goals as goal

pub returns : goal.returns
returns c = reads_and_acts_are_commits
