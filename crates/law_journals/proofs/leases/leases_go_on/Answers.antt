use Rattle.law_journals.proofs.BurstLemmas.{leases_go_on}
use Rattle.law_journals.proofs.leases.leases_go_on.Goals as goal

pub returns : goal.returns
returns c = leases_go_on
