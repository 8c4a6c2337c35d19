use Rattle.code_laws.proofs.BranchLemmas.{choice_goes_on, branches_run}
use Rattle.code_laws.proofs.rows.choices_go_on.Goals as goal

pub returns : goal.returns
returns c = record { law = λ xs scope ns ps i s r. (branches_run xs scope ns ps r, choice_goes_on xs scope ns ps i s r) }
