use Rattle.law_steps.proofs.LogLemmas.{logs_tell}
use Rattle.law_steps.proofs.names.logs_tell.Goals as goal

pub returns : goal.returns
returns c = logs_tell
