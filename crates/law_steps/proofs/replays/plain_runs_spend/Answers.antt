use Rattle.law_steps.proofs.SpendLemmas.{plain_runs_spend}
use Rattle.law_steps.proofs.replays.plain_runs_spend.Goals as goal

pub returns : goal.returns
returns c = plain_runs_spend
