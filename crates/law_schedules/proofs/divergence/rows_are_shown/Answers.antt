use Rattle.law_schedules.proofs.DivergenceLemmas.{rows_are_shown}
use Rattle.law_schedules.proofs.divergence.rows_are_shown.Goals as goal

pub returns : goal.returns
returns c = rows_are_shown
