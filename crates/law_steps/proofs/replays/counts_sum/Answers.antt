use Rattle.law_steps.proofs.SpendLemmas.{counts_sum}
use Rattle.law_steps.proofs.replays.counts_sum.Goals as goal

pub returns : goal.returns
returns c = counts_sum
