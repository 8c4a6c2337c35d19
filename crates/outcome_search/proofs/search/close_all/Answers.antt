use Rattle.std.specs.Prelude.{◌<◌, length, map}
use Rattle.std.proofs.Common.{sym, subst, ◌∙◌, arith}
use Rattle.outcome_search.specs.Ends.{run_logs, IsReplayableEnd}
use Rattle.outcome_search.specs.Found.{AreFound, IfComplete, IsClosedIn}
use Rattle.outcome_search.proofs.GrownLemmas.{has_at}
use Rattle.outcome_search.proofs.SearchLemmas.{closing}
use Rattle.outcome_search.proofs.search.close_all.Goals as goal

pub close_run-requires-clause-run : goal.close_run-requires-clause-run
close_run-requires-clause-run g c =
    let program = g.R.Runs.program c.args.runs.now in
    let now = c.loop-done.ends.items in
    let y = c.index.result.now in
    let lt : c.loop-done.done < length now = omega (arith, c.if-done-len.false, c.len.ensures) in
    let end = c.loop-done.invariant.1.found.ends (run_logs y) (has_at now c.loop-done.done y y lt c.index.ensures) in
    let x = run_logs c.in_ok-run.run' in
    subst (λ p. IsReplayableEnd p x) (sym (c.told.ensures.program ∙ c.loop-done.invariant.0)) (subst (IsReplayableEnd program) (sym c.in_ok-run.ensures.same) end)

pub loop-done-preserved : goal.loop-done-preserved
loop-done-preserved g c =
    let program = g.R.Runs.program c.args.runs.now in
    let kept = c.told.ensures.program ∙ c.loop-done.invariant.0 in
    let e = c.in_ok-stop.ensures in
    let now = c.loop-done.ends.items in
    let new = map run_logs c.close_run.new.ends.items in
    let y = c.index.result.now in
    let x = run_logs c.in_ok-run.run' in
    let lt : c.loop-done.done < length now = omega (arith, c.if-done-len.false, c.len.ensures) in
    let closed = subst (IfComplete (IsClosedIn (g.R.Runs.program c.told.new.self) new x x.0)) c.in-Complete.is e.closed in (
      kept,
      closing program c.args.most (map run_logs c.args.ends.now.items) new now c.loop-done.done y y lt c.index.ensures c.loop-done.invariant.1
          (subst (λ p. AreFound p c.args.most new) kept e.found) e.grows
          (subst (λ z. IsClosedIn program new z z.0) c.in_ok-run.ensures.same (subst (λ p. IsClosedIn p new x x.0) kept closed)),
    )
