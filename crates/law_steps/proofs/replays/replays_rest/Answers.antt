use Rattle.law_steps.proofs.RestLemmas.{replays_rest}
use Rattle.law_steps.proofs.replays.replays_rest.Goals as goal

pub returns : goal.returns
returns c = replays_rest
