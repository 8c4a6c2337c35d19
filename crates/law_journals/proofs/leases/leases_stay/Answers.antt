use Rattle.law_journals.proofs.LeaseLemmas.{leases_stay}
use Rattle.law_journals.proofs.leases.leases_stay.Goals as goal

pub returns : goal.returns
returns c = leases_stay
