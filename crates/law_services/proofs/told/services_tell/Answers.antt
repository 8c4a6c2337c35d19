use Rattle.law_services.proofs.ToldLemmas.{services_tell}
use Rattle.law_services.proofs.told.services_tell.Goals as goal

pub returns : goal.returns
returns c = services_tell
