use Rattle.race_desks.specs.Turns.{IsFinished}
use Rattle.race_workers.specs.Working.{IsAtWork}
use Rattle.race_workers.proofs.work.work.Given as goal

-- both seats are between their turns, with the leases that the worker has there, which it has run
abbrev pub invariant-loop : goal.invariant-loop
invariant-loop g l = IsAtWork IsFinished l.hub l.seats.first l.one × IsAtWork IsFinished l.hub l.seats.second l.two
