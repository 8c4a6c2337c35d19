use Rattle.law_journals.proofs.BurstLemmas.{leases_are_one}
use Rattle.law_journals.proofs.leases.leases_are_one.Goals as goal

pub returns : goal.returns
returns c = leases_are_one
