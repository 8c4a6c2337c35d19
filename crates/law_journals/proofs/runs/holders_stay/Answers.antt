use Rattle.law_journals.proofs.RunLemmas.{holders_stay}
use Rattle.law_journals.proofs.runs.holders_stay.Goals as goal

pub returns : goal.returns
returns c = holders_stay
