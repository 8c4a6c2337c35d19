use Rattle.law_schedules.proofs.ReadLemmas.{reports_are_in_order}
use Rattle.law_schedules.proofs.divergence.reports_are_in_order.Goals as goal

pub returns : goal.returns
returns c = reports_are_in_order
