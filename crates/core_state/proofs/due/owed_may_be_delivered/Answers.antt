use Rattle.core_state.proofs.DueLemmas.{owed_may_be_delivered}
use Rattle.core_state.proofs.due.owed_may_be_delivered.Goals as goal

pub returns : goal.returns
returns c = owed_may_be_delivered
