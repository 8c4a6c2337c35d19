use Rattle.std.proofs.Common.{List, sym, subst}
use Rattle.law_families.specs.Families.{RunLogs}
use Rattle.outcome_search.specs.Found.{AreFound, IfComplete}
use Rattle.replay_classes.specs.Complete.{IsCompleteByClasses}
use Rattle.replay_classes.proofs.search.with_runs.Goals as goal

pub returns : goal.returns
returns c = record {
  told = λ program most found complete. (
    subst (AreFound program most) (sym c.in_ok-runs_of.ensures.runs) found,
    subst (λ (rs : List RunLogs). IfComplete (IsCompleteByClasses program rs) c.args.stop) (sym c.in_ok-runs_of.ensures.runs) complete,
  );
}
