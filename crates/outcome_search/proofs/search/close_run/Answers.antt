use Rattle.std.specs.Prelude.{◌≡◌, ◌<◌, length, map}
use Rattle.std.proofs.Common.{subst, slice_index_or}
use Rattle.outcome_search.specs.Ends.{run_logs}
use Rattle.outcome_search.specs.Found.{IfComplete, IsClosedAt}
use Rattle.outcome_search.proofs.SearchLemmas.{listing}
use Rattle.outcome_search.proofs.search.close_run.Goals as goal

pub loop-entry-preserved : goal.loop-entry-preserved
loop-entry-preserved g c =
    let program = g.R.Runs.program c.args.runs.now in
    let e = c.in_ok-stop.ensures in
    let new = map run_logs c.close_log.new.ends.items in
    let x = run_logs c.args.run.now in
    let k = c.loop-entry.entry-index in
    let l = c.entry-item.result in
    listing program c.args.most (map run_logs c.args.ends.now.items) (map run_logs c.loop-entry.ends.items) new x c.args.run.now.lists.entries.items k l
    (subst (λ xs. k < length xs) c.deref-entry-items.ensures.value c.loop-entry-test.true)
    (subst (λ xs. l ≡ slice_index_or xs k l) c.deref-entry-items.ensures.value c.entry-item.is)
    c.loop-entry.invariant e.found e.grows
    (subst (IfComplete (IsClosedAt program new x l.0)) c.in-Complete.is e.closed)
