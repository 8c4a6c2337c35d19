use Rattle.std.specs.Prelude.{◌≡◌, map}
use Rattle.outcome_search.specs.Ends.{run_logs}
use Rattle.outcome_search.proofs.SearchLemmas.{Closing}
use Rattle.outcome_search.proofs.search.close_all.Given as goal

abbrev pub invariant-loop-done : goal.invariant-loop-done
invariant-loop-done g l = (g.R.Runs.program l.runs ≡ g.R.Runs.program l.initial.runs) × Closing (g.R.Runs.program l.initial.runs) l.most (map run_logs l.initial.ends.items) (map run_logs l.ends.items) l.done
