use Rattle.law_classes.proofs.RequestLemmas.{services_show_classes}
use Rattle.law_classes.proofs.classes.services_show_classes.Goals as goal

pub returns : goal.returns
returns c = services_show_classes
