use Rattle.law_peeks.proofs.LeaseLemmas.{reads_are_events}
use Rattle.law_peeks.proofs.leases.reads_are_events.Goals as goal

pub returns : goal.returns
returns c = reads_are_events
