use Rattle.std.specs.Prelude.{◌≤◌, suc, length, map}
use Rattle.std.proofs.Common.{sym, subst, arith}
use Rattle.asp_model.specs.Shapes.{lists_shape}
use Rattle.law_chases.proofs.FutureLemmas.{true_false}
use Rattle.law_families.specs.Families.{IsWithin}
use Rattle.outcome_search.specs.Ends.{run_logs}
use Rattle.outcome_search.proofs.SearchLemmas.{met}
use Rattle.outcome_search.proofs.search.meet.Goals as goal

pub returns-in_ok-push-in-Some : goal.returns-in_ok-push-in-Some
returns-in_ok-push-in-Some g c =
    let old = c.args.ends.now.items in
    let lists = lists_shape c.args.lists.now in
    let room : suc (length old) ≤ c.args.most = omega (arith, c.if-len-most.false, c.len.ensures) in
    let m = met (g.R.Runs.program c.args.runs.now) c.args.most old c.push.new.self.items c.in-Some.end lists c.in_ok-end.field-0 c.requires.found room
    (λ w. true_false c.is_within.result (c.is_within.ensures.within.1 (subst (λ l. IsWithin (map run_logs l) lists) (sym c.deref.ensures.value) w)) c.if-is_within.false)
    c.in_ok-end.ensures.end c.in-Some.is c.in_ok-push-in-Some.ensures.items in
    record { found = m.found; grows = m.grows; within = m.within; full = tt }
