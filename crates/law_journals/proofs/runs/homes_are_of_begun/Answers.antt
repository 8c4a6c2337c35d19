use Rattle.law_journals.proofs.RunLemmas.{homes_are_of_begun}
use Rattle.law_journals.proofs.runs.homes_are_of_begun.Goals as goal

pub returns : goal.returns
returns c = homes_are_of_begun
