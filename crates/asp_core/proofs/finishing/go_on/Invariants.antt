use Rattle.asp_core.proofs.OverLemmas.{IsGoing}
use Rattle.asp_core.proofs.finishing.go_on.Given as goal

abbrev pub invariant-loop-round : goal.invariant-loop-round
invariant-loop-round g l = IsGoing g.P.UpdatePolicy.answer g.P.UpdatePolicy.asked l.initial.core l.core
