use Rattle.law_journals.proofs.RunLemmas.{holders_are_of_runs}
use Rattle.law_journals.proofs.runs.holders_are_of_runs.Goals as goal

pub returns : goal.returns
returns c = holders_are_of_runs
