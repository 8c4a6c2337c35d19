use Rattle.law_steps.proofs.NamesLaws.{served_once}
use Rattle.law_steps.proofs.names.served_once.Goals as goal

pub returns : goal.returns
returns c = served_once
