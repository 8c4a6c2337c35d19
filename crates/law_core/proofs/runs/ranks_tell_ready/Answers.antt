use Rattle.law_core.proofs.RunLemmas.{ranks_tell_ready}
use Rattle.law_core.proofs.runs.ranks_tell_ready.Goals as goal

pub returns : goal.returns
returns c = ranks_tell_ready
