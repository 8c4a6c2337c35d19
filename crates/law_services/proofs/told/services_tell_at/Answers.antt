use Rattle.law_services.proofs.ToldLemmas.{services_tell_at}
use Rattle.law_services.proofs.told.services_tell_at.Goals as goal

pub returns : goal.returns
returns c = services_tell_at
