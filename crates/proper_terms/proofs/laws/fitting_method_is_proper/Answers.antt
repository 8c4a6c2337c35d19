use Rattle.proper_terms.proofs.FitLemmas.{fitting_method_is_proper}
use Rattle.proper_terms.proofs.laws.fitting_method_is_proper.Goals as goal

pub returns : goal.returns
returns c = fitting_method_is_proper
