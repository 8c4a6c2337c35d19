use Rattle.law_peeks.proofs.ToldLemmas.{moves_are_events}
use Rattle.law_peeks.proofs.events.moves_are_events.Goals as goal

pub returns : goal.returns
returns c = moves_are_events
