use Rattle.law_core.proofs.EventLemmas.{runs_are_silent}
use Rattle.law_core.proofs.events.runs_are_silent.Goals as goal

pub returns : goal.returns
returns c = runs_are_silent
