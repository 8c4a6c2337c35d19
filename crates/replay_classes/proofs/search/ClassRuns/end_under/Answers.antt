use Rattle.std.proofs.Common.{subst}
use Rattle.outcome_search.specs.Ends.{IsEnd, IsReplayableEnd, run_logs}
use Rattle.replay_offers.specs.Programs.{tree_in}
use Rattle.replay_classes.proofs.search.ClassRuns.end_under.Goals as goal

pub found_end-requires : goal.found_end-requires
found_end-requires g c = record {
  end =
      subst (λ t. IsReplayableEnd t (run_logs c.in-Some.run')) c.in_ok-runs.ensures.program
      (subst (IsEnd (tree_in c.in_ok-runs.runs)) c.in-Some.is c.in_ok-run.ensures.end);
}
