use Rattle.law_journals.proofs.BurstLemmas.{leases_last}
use Rattle.law_journals.proofs.leases.leases_last.Goals as goal

pub returns : goal.returns
returns c = leases_last
