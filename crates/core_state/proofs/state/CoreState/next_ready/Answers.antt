use Rattle.core_state.proofs.ListLemmas.{some_more}
use Rattle.core_state.proofs.LendLemmas.{next_by}
use Rattle.core_state.proofs.state.CoreState.next_ready.Goals as goal

pub returns : goal.returns
returns c = record { next = λ h code s core. next_by h code c.args.self.now s core (some_more c.args.self.now.left c.if-self-eq0.false) c.first_going.result c.first_going.ensures.first }
