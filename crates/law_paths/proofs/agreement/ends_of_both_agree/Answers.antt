use Rattle.law_paths.proofs.OutcomeLemmas.{ends_of_both_agree}
use Rattle.law_paths.proofs.agreement.ends_of_both_agree.Goals as goal

pub returns : goal.returns
returns c = ends_of_both_agree
