use Rattle.request_queue.proofs.FewLemmas.{IsAhead}
use Rattle.request_queue.proofs.few.place_of.Given as goal

abbrev pub invariant-loop-at : goal.invariant-loop-at
invariant-loop-at l = IsAhead l.number l.arrivals l.at
