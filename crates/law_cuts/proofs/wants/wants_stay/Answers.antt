use Rattle.law_cuts.proofs.WantLemmas.{wants_stay}
use Rattle.law_cuts.proofs.wants.wants_stay.Goals as goal

pub returns : goal.returns
returns c = wants_stay
