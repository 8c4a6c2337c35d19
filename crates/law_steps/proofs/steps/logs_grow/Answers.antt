use Rattle.law_steps.proofs.LogLemmas.{logs_grow}
use Rattle.law_steps.proofs.steps.logs_grow.Goals as goal

pub returns : goal.returns
returns c = logs_grow
