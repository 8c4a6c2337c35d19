use Rattle.std.proofs.Common.{◌≡◌, List, map, refl, subst, sym}
use Rattle.asp_model.specs.Term.{Tree}
use Rattle.law_families.specs.Families.{IsComplete, RunLogs}
use Rattle.outcome_search.specs.Ends.{AreReplayableEnds, run_logs}
use Rattle.outcome_search.specs.Found.{IfComplete}
use Rattle.replay_offers.specs.Programs.{tree_in}
use Rattle.outcomes_top.proofs.family.checked.Goals as goal

pub returns : goal.returns
returns g c =
    let t : Tree = tree_in c.args.runs in
    let given : List RunLogs = map run_logs c.args.given.items in
    let ends : List RunLogs = map run_logs c.in_ok-found.found.ends.items in
    let those : ends ≡ given = c.in_ok-found.ensures.same in
    let found : AreReplayableEnds t ends = subst (AreReplayableEnds t) (sym those) c.requires.given in
    record {
      family = record {
        tree = refl;
        ends = found;
        family = record {
          ended = λ x h. (found x h).0;
          complete = λ w. subst (IsComplete t) (sym those) (subst (IfComplete (IsComplete t given)) (c.is_whole.ensures.whole w) c.in_ok-found.ensures.complete);
        };
      };
      orders = refl;
      same = those;
    }
