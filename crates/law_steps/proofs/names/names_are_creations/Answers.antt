use Rattle.law_steps.proofs.NamesLaws.{names_are_creations}
use Rattle.law_steps.proofs.names.names_are_creations.Goals as goal

pub returns : goal.returns
returns c = names_are_creations
