use Rattle.law_journals.proofs.BurstLemmas.{bursts_are_counted}
use Rattle.law_journals.proofs.leases.bursts_are_counted.Goals as goal

pub returns : goal.returns
returns c = bursts_are_counted
