use Rattle.code_laws.proofs.GrowLemmas.{grows}
use Rattle.code_laws.proofs.environments.environments_grow.Goals as goal

pub returns : goal.returns
returns c = record { law = grows }
