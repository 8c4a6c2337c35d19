use Rattle.std.specs.Prelude.{map, take}
use Rattle.outcome_search.specs.Ends.{run_logs}
use Rattle.outcome_search.proofs.LogLemmas.{row}
use Rattle.outcome_search.proofs.SearchLemmas.{Listing}
use Rattle.outcome_search.proofs.search.close_run.Given as goal

abbrev pub invariant-loop-entry : goal.invariant-loop-entry
invariant-loop-entry g l = Listing (g.R.Runs.program l.runs) l.most (map run_logs l.initial.ends.items) (map run_logs l.ends.items) (run_logs l.run) (map row (take l.entry-index l.run.lists.entries.items))
