use Rattle.code_laws.proofs.BranchLemmas.{sequence_goes_on, sequel_runs}
use Rattle.code_laws.proofs.rows.sequences_go_on.Goals as goal

pub returns : goal.returns
returns c = record { law = λ xs scope ns ps i s r. (sequel_runs xs scope ns ps r, sequence_goes_on xs scope ns ps i s r) }
