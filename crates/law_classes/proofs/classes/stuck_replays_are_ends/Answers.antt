use Rattle.law_classes.proofs.RequestLemmas.{stuck_replays_are_ends}
use Rattle.law_classes.proofs.classes.stuck_replays_are_ends.Goals as goal

pub returns : goal.returns
returns c = stuck_replays_are_ends
