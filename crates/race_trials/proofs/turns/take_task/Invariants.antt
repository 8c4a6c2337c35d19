use Rattle.race_trials.specs.Ready.{IsReady}
use Rattle.race_trials.proofs.turns.take_task.Given as goal

abbrev pub invariant-loop : goal.invariant-loop
invariant-loop g l = IsReady l.hub 1 l.seat
