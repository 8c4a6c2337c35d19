use Rattle.code_laws.proofs.BranchLemmas.{let_enters, let_runs}
use Rattle.code_laws.proofs.rows.bindings_are_entered.Goals as goal

pub returns : goal.returns
returns c = record { law = λ xs scope ns x ps i s r. (let_runs xs scope ns x ps i r, let_enters xs scope ns x ps i s r) }
