use Rattle.replay_parts.proofs.EntryLemmas.{reception_past, reception_there}
use Rattle.replay_parts.proofs.bounds.next_among.Goals as goal

pub returns-in-Some : goal.returns-in-Some
returns-in-Some c = record { next = reception_there c.args.log.now c.args.place c.in-Some.reception.now c.in-Some.ensures.lookup.3.0 c.in-Some.ensures.lookup.1 }

pub returns-in-None : goal.returns-in-None
returns-in-None c = record { next = reception_past c.args.log.now c.args.place c.in-None.ensures.lookup.3 }
