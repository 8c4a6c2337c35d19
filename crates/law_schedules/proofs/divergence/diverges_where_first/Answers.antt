use Rattle.law_schedules.proofs.DivergenceLemmas.{diverges_where_first}
use Rattle.law_schedules.proofs.divergence.diverges_where_first.Goals as goal

pub returns : goal.returns
returns c = diverges_where_first
