use Rattle.law_renewals.proofs.RenewalLemmas.{renewals_are_lawful}
use Rattle.law_renewals.proofs.renewals.renewals_are_lawful.Goals as goal

pub returns : goal.returns
returns c = renewals_are_lawful
