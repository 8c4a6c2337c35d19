use Rattle.std.specs.Prelude.{map}
use Rattle.asp_model.specs.Shapes.{lists_shape}
use Rattle.outcome_search.specs.Ends.{run_logs}
use Rattle.outcome_search.specs.Found.{HasOffersTo}
use Rattle.outcome_search.proofs.runs.Runs.offers_at_all.Given as goal

abbrev pub invariant-loop-place : goal.invariant-loop-place
invariant-loop-place g l = HasOffersTo (g.Self.Runs.program l.self) (run_logs l.run) l.to l.place (map lists_shape l.all.items)
