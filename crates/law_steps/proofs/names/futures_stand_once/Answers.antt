use Rattle.law_steps.proofs.NamesLaws.{futures_stand_once}
use Rattle.law_steps.proofs.names.futures_stand_once.Goals as goal

pub returns : goal.returns
returns c = futures_stand_once
