use Rattle.std.proofs.Common.{List, true, map, refl, subst}
use Rattle.asp_model.specs.Term.{Tree}
use Rattle.law_families.specs.Families.{RunLogs}
use Rattle.outcome_search.specs.Ends.{run_logs}
use Rattle.outcome_search.specs.Found.{IfComplete}
use Rattle.replay_offers.specs.Programs.{tree_in}
use Rattle.outcomes_top.specs.Families.{AreAll}
use Rattle.outcomes_top.proofs.family.in_classes.Goals as goal

pub returns : goal.returns
returns c =
    let t : Tree = tree_in c.args.runs in
    let ends : List RunLogs = map run_logs c.args.found.ends.items in
    record {
      family = record {
        tree = refl;
        ends = c.requires.found;
        family = record {
          ended = λ x h. (c.requires.found x h).0;
          complete = λ w. subst (IfComplete (AreAll true t ends)) (c.is_whole.ensures.whole w) c.requires.complete;
        };
      };
    }
