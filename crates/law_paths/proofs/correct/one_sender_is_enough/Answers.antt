use Rattle.law_paths.proofs.ReplayLemmas.{one_sender_is_enough}
use Rattle.law_paths.proofs.correct.one_sender_is_enough.Goals as goal

pub returns : goal.returns
returns c = one_sender_is_enough
