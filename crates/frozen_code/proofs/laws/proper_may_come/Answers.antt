use Rattle.frozen_code.proofs.ProperLemmas.{contexts_may_come, redexes_may_come}
use Rattle.frozen_code.proofs.laws.proper_may_come.Goals as goal

pub returns : goal.returns
returns c = record { contexts = contexts_may_come; redexes = redexes_may_come }
