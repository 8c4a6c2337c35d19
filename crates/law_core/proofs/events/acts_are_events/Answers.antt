use Rattle.law_core.proofs.EventLemmas.{acts_are_events}
use Rattle.law_core.proofs.events.acts_are_events.Goals as goal

pub returns : goal.returns
returns c = acts_are_events
