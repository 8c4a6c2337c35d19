use Rattle.race_trials.specs.Ready.{IsReady}
use Rattle.race_trials.proofs.stress.StressWorkTasks.turns.Given as goal

abbrev pub invariant-loop-turn : goal.invariant-loop-turn
invariant-loop-turn g l = IsReady l.hub 1 l.seat
