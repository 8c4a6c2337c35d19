use Rattle.law_steps.proofs.ReplayLemmas.{replays_lead}
use Rattle.law_steps.proofs.replays.replays_lead.Goals as goal

pub returns : goal.returns
returns c = replays_lead
