use Rattle.law_core.proofs.OutcomeLemmas.{journals_end}
use Rattle.law_core.proofs.outcomes.journals_end.Goals as goal

pub returns : goal.returns
returns c = journals_end
