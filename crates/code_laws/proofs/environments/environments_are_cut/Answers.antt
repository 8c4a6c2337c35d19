use Rattle.code_laws.proofs.GrowLemmas.{is_cut}
use Rattle.code_laws.proofs.environments.environments_are_cut.Goals as goal

pub returns : goal.returns
returns c = record { law = is_cut }
