use Rattle.race_desks.proofs.SettleLemmas.{Settling}
use Rattle.race_desks.proofs.desk.settling.settle.Given as goal

-- some grants were entered
abbrev pub invariant-loop-core : goal.invariant-loop-core
invariant-loop-core g l = Settling g.P.UpdatePolicy.answer g.P.UpdatePolicy.asked l.fn.core l.fn.long l.core l.long

abbrev pub decreases-loop-core : goal.decreases-loop-core
decreases-loop-core g l = l.long.rounds
