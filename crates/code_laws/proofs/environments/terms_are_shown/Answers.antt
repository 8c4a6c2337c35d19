use Rattle.code_laws.proofs.ShownLemmas.{shown_is}
use Rattle.code_laws.proofs.environments.terms_are_shown.Goals as goal

pub returns : goal.returns
returns c = record { law = shown_is }
