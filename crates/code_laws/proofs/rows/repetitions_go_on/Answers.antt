use Rattle.code_laws.proofs.BranchLemmas.{repetition_goes_on, unrolled_runs}
use Rattle.code_laws.proofs.rows.repetitions_go_on.Goals as goal

pub returns : goal.returns
returns c = record { law = λ xs scope ns ps s r. (unrolled_runs xs scope ns ps r, repetition_goes_on xs scope ns ps s r) }
