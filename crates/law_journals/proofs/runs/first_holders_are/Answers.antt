use Rattle.law_journals.proofs.RunLemmas.{first_holders_are}
use Rattle.law_journals.proofs.runs.first_holders_are.Goals as goal

pub returns : goal.returns
returns c = first_holders_are
