use Rattle.std.specs.Prelude.{map}
use Rattle.std.proofs.Common.{sym, subst, IfOk}
use Rattle.asp_model.specs.Shapes.{lists_shape}
use Rattle.law_families.specs.Families.{ComesBehind}
use Rattle.outcome_search.specs.Ends.{run_logs}
use Rattle.outcome_search.specs.Found.{AreWithin, IfComplete, IsClosedAt}
use Rattle.outcome_search.proofs.ClosedLemmas.{closed_by}
use Rattle.outcome_search.proofs.SearchLemmas.{if_ok_more, if_complete}
use Rattle.outcome_search.proofs.search.close_log.Goals as goal

pub returns-clause-closed : goal.returns-clause-closed
returns-clause-closed g c =
    let program = g.R.Runs.program c.args.runs.now in
    let ends = map run_logs c.meet_all.new.ends.items in
    let x = run_logs c.args.run.now in
    let q = c.args.to.now in
    let ls = map lists_shape c.in_ok-offers.offers.items in
    if_ok_more c.meet_all.result (IfComplete (AreWithin ends ls)) (IfComplete (IsClosedAt program ends x q))
    (λ s. if_complete (AreWithin ends ls) (IsClosedAt program ends x q) (closed_by program ends x q c.open_places-places.result ls (λ k entry b. c.open_places-places.ensures.places k entry (subst (λ l. ComesBehind l k entry) (sym c.log_of.ensures.log) b)) c.in_ok-offers.ensures.all) s)
    (subst (λ l. IfOk c.meet_all.result (IfComplete (AreWithin ends (map lists_shape l)))) c.deref.ensures.value c.meet_all.ensures.within)
