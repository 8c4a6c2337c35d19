use Rattle.law_renewals.proofs.RenewalLemmas.{renewals_are_silent}
use Rattle.law_renewals.proofs.renewals.renewals_are_silent.Goals as goal

pub returns : goal.returns
returns c = renewals_are_silent
