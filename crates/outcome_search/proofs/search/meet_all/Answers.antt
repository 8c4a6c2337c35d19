use Rattle.std.specs.Prelude.{map}
use Rattle.std.proofs.Common.{subst}
use Rattle.asp_model.specs.Shapes.{lists_shape}
use Rattle.law_families.specs.Families.{IsWithin}
use Rattle.outcome_search.specs.Ends.{run_logs}
use Rattle.outcome_search.specs.Found.{IfComplete}
use Rattle.outcome_search.proofs.SearchLemmas.{meeting}
use Rattle.outcome_search.proofs.search.meet_all.Goals as goal

pub loop-lists-preserved : goal.loop-lists-preserved
loop-lists-preserved g c =
    let e = c.in_ok-stop.ensures in
    let new = map run_logs c.meet.new.ends.items in
    let l = c.lists-item.result in
    meeting (g.R.Runs.program c.args.runs.now) c.args.most (map run_logs c.args.ends.now.items) (map run_logs c.loop-lists.ends.items) new c.args.offers.now c.loop-lists.lists-index l c.loop-lists-test.true c.lists-item.is c.loop-lists.invariant e.found e.grows
    (subst (IfComplete (IsWithin new (lists_shape l))) c.in-Complete.is e.within)
