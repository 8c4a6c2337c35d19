use Rattle.proper_terms.proofs.FitLemmas.{single_is_single}
use Rattle.proper_terms.proofs.laws.single_is_single.Goals as goal

pub returns : goal.returns
returns c = single_is_single
