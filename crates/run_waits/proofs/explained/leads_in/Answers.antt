use Rattle.std.proofs.Common.{List, Option, ℕ, ap, length, subst, sym, ◌∙◌}
use Rattle.asp_model.specs.declared.outcome.ActivityReport.{ActivityReport}
use Rattle.wait_circles.specs.Ways.{AreCircles, AreEnds, AreWithin}
use Rattle.wait_circles.specs.Whys.{AreWaits, names_of}
use Rattle.run_waits.specs.Explains.{IsEndTold}
use Rattle.run_waits.proofs.explained.leads_in.Goals as goal

pub ways_of-requires : goal.ways_of-requires
ways_of-requires c = record { within = subst AreWithin (sym c.deref-2.ensures.value) c.in_ok-next.ensures.within }

pub returns-clause-size : goal.returns-clause-size
returns-clause-size c = c.in_ok-next.ensures.size ∙ ap length c.deref.ensures.value

pub returns-clause-waits : goal.returns-clause-waits
returns-clause-waits c last told =
    let end = c.args.end.now in
    let r = c.args.receipts.now in
    let seen = subst (λ (xs : List ActivityReport). IsEndTold last xs end.futures r) (sym c.deref.ensures.value) told in
    subst (λ (xs : List ActivityReport). AreWaits last c.in_ok-next.next.items (names_of xs)) c.deref.ensures.value (c.in_ok-next.ensures.waits last seen)

pub returns-clause-circles : goal.returns-clause-circles
returns-clause-circles c = subst (λ (ns : List (Option ℕ)). AreCircles ns c.in_ok-ways.ways.circles.items) c.deref-2.ensures.value c.in_ok-ways.ensures.circles

pub returns-clause-ends : goal.returns-clause-ends
returns-clause-ends c = subst (λ (ns : List (Option ℕ)). AreEnds ns c.in_ok-ways.ways.circles.items c.in_ok-ways.ways.ends.items) c.deref-2.ensures.value c.in_ok-ways.ensures.ends
