use Rattle.law_outcomes.proofs.OutcomeLemmas.{outcomes_are_well_formed}
use Rattle.law_outcomes.proofs.outcomes.outcomes_are_well_formed.Goals as goal

pub returns : goal.returns
returns c = outcomes_are_well_formed
