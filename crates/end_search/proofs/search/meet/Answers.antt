use Rattle.std.specs.Prelude.{◌≤◌, suc, length}
use Rattle.std.proofs.Common.{sym, subst, arith, IfOk}
use Rattle.end_search.specs.Found.{IsWithin}
use Rattle.end_search.proofs.GrownLemmas.{not_both}
use Rattle.end_search.proofs.SearchLemmas.{met}
use Rattle.end_search.proofs.search.meet.Goals as goal

pub returns-in_ok-push-in-Ok : goal.returns-in_ok-push-in-Ok
returns-in_ok-push-in-Ok g c =
    let begins = g.S.Ends.begins in
    let old = c.args.ends.now.items in
    let room : suc (length old) ≤ c.args.most = omega (arith, c.if-len-most.false, c.len.ensures) in
    let e = subst (λ r. IfOk r (λ e. g.S.Ends.ended c.args.runs.now e × begins e c.args.offer.now)) c.in-Ok.is c.in_ok-end.ensures.end in
    let m = met (g.S.Ends.ended c.args.runs.now) begins c.args.most old c.push.new.self.items c.in-Ok.end c.args.offer.now c.requires.found room
    (λ w. not_both c.is_within.result (c.is_within.ensures.within.1 (subst (λ l. IsWithin begins l c.args.offer.now) (sym c.deref.ensures.value) w)) c.if-is_within.false)
    e.0 e.1 c.in_ok-push-in-Ok.ensures.items in
    record { found = m.found; grows = m.grows; within = m.within; full = tt }
