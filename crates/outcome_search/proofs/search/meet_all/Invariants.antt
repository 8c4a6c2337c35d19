use Rattle.std.specs.Prelude.{map, take}
use Rattle.asp_model.specs.Shapes.{lists_shape}
use Rattle.outcome_search.specs.Ends.{run_logs}
use Rattle.outcome_search.proofs.SearchLemmas.{Meeting}
use Rattle.outcome_search.proofs.search.meet_all.Given as goal

abbrev pub invariant-loop-lists : goal.invariant-loop-lists
invariant-loop-lists g l = Meeting (g.R.Runs.program l.runs) l.most (map run_logs l.initial.ends.items) (map run_logs l.ends.items) (map lists_shape (take l.lists-index l.offers))
