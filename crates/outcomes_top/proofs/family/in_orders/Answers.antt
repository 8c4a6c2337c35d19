use Rattle.std.proofs.Common.{List, map, refl, subst}
use Rattle.asp_model.specs.Term.{Tree}
use Rattle.law_families.specs.Families.{IsComplete, RunLogs}
use Rattle.outcome_search.specs.Ends.{AreReplayableEnds, run_logs}
use Rattle.outcome_search.specs.Found.{IfComplete}
use Rattle.replay_offers.specs.Programs.{tree_in}
use Rattle.outcomes_top.proofs.family.in_orders.Goals as goal

pub returns : goal.returns
returns g c =
    let t : Tree = tree_in c.args.runs in
    let ends : List RunLogs = map run_logs c.in_ok-found.found.ends.items in
    let found : AreReplayableEnds t ends = c.in_ok-found.ensures.found.ends in
    record {
      family = record {
        tree = refl;
        ends = found;
        family = record {
          ended = λ x h. (found x h).0;
          complete = λ w. subst (IfComplete (IsComplete t ends)) (c.is_whole.ensures.whole w) c.in_ok-found.ensures.complete;
        };
      };
      orders = refl;
    }
