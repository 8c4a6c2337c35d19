use Rattle.asp_core.proofs.EndOfRunLemmas.{IsGathered}
use Rattle.asp_core.proofs.gathering.gathered.Given as goal

abbrev pub invariant-loop-number : goal.invariant-loop-number
invariant-loop-number l = IsGathered l.initial.seats l.seats l.count l.number l.activities.items
