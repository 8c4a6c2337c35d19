use Rattle.law_renewals.proofs.RenewalLemmas.{long_leases_are_lawful}
use Rattle.law_renewals.proofs.renewals.long_leases_are_lawful.Goals as goal

pub returns : goal.returns
returns c = long_leases_are_lawful
