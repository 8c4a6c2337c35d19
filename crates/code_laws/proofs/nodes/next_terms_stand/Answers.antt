use Rattle.std.proofs.Common.{length}
use Rattle.code_laws.proofs.TurnLemmas.{child_runs, opens}
use Rattle.code_laws.proofs.nodes.next_terms_stand.Goals as goal

pub returns : goal.returns
returns c = record { law = λ xs scope ns p done r lt. (child_runs xs scope ns p (length done) r lt, opens xs scope ns p done r lt) }
