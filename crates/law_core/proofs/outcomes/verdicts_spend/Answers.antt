use Rattle.law_core.proofs.OutcomeLemmas.{verdicts_spend}
use Rattle.law_core.proofs.outcomes.verdicts_spend.Goals as goal

pub returns : goal.returns
returns c = verdicts_spend
