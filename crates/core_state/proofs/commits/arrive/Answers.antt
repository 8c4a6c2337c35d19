use Rattle.std.proofs.Common.{◌∙◌, ◌-◌, false, true, ap, refl, subst, sym}
use Rattle.asp_model.specs.Chase.{chase}
use Rattle.asp_model.specs.Configuration.{requests_of}
use Rattle.future_table.specs.Values.{values_of}
use Rattle.law_core.specs.Ranked.{rank_of}
use Rattle.step_activity.specs.Actors.{IsClosedFor, Stands}
use Rattle.core_state.specs.Returning.{IsSomeReturning}
use Rattle.core_state.proofs.ComeBackLemmas.{back_closed, back_values}
use Rattle.core_state.specs.Arrivals.{IsRankAlone}
use Rattle.core_state.specs.Commits.{act_of, act_within}
use Rattle.core_state.proofs.CommitLemmas.{acts_not, acts_now}
use Rattle.core_state.proofs.commits.arrive.Goals as goal

pub rank_alone-requires-clause-closed : goal.rank_alone-requires-clause-closed
rank_alone-requires-clause-closed c =
    let r = c.requires.lease in
    let l = c.args.lease in
    subst IsClosedFor (sym c.as_ref.ensures) (back_closed r.0 r.1 c.take_back.new.self r.2 l.number r.4.name l.grant l.taken c.in_ok-actor.actor.value (c.in_ok-actor.ensures.returning r.0 r.1 r.2 r.3 r.4))

pub rank_alone-requires-clause-values : goal.rank_alone-requires-clause-values
rank_alone-requires-clause-values c =
    let r = c.requires.lease in
    let l = c.args.lease in
    back_values r.0 r.1 c.take_back.new.self r.2 l.number r.4.name l.grant l.taken c.in_ok-actor.actor.value (c.in_ok-actor.ensures.returning r.0 r.1 r.2 r.3 r.4)

pub come_back-requires : goal.come_back-requires
come_back-requires c =
    let r = c.requires.lease in
    record { returning = (r.0, r.1, r.2, r.4.name, c.in_ok-actor.ensures.returning r.0 r.1 r.2 r.3 r.4) }

pub returns-in_default-clause-arrived : goal.returns-in_default-clause-arrived
returns-in_default-clause-arrived c = λ h code s core lease.
    let l = c.args.lease in
    let x = c.take_back.new.self in
    let a = c.in_ok-actor.actor.value in
    let back = c.in_ok-actor.ensures.returning h code s core lease in
    let z : IsSomeReturning x l.number l.grant l.taken a = (h, code, s, lease.name, back) in
    let rs = requests_of s.configuration lease.name in
    let values = values_of x.futures in
    let o = act_within (l.grant - l.taken) (act_of (chase values) rs lease.name back.end) in
    let told = rank_of values rs lease.name back.end in
    let some = subst (IsRankAlone o told) c.in_default.is (c.in_ok-alone.ensures.alone back.end rs lease.name (subst (λ y. Stands y back.end rs) (sym c.as_ref.ensures) back.stands)) in
    let act = acts_now x l.number l.grant l.taken a z true (sym some) refl in
    (act.0, back, act.1)

pub returns-clause-arrived : goal.returns-clause-arrived
returns-clause-arrived c = λ h code s core lease.
    let l = c.args.lease in
    let x = c.take_back.new.self in
    let a = c.in_ok-actor.actor.value in
    let back = c.in_ok-actor.ensures.returning h code s core lease in
    let z : IsSomeReturning x l.number l.grant l.taken a = (h, code, s, lease.name, back) in
    let rs = requests_of s.configuration lease.name in
    let values = values_of x.futures in
    let o = act_within (l.grant - l.taken) (act_of (chase values) rs lease.name back.end) in
    let told = rank_of values rs lease.name back.end in
    let alone = subst (IsRankAlone o told) c.in-Some.is (c.in_ok-alone.ensures.alone back.end rs lease.name (subst (λ y. Stands y back.end rs) (sym c.as_ref.ensures) back.stands)) in
    let none = acts_not x l.number l.grant l.taken a z false (sym alone.0) refl in
    let rank = alone.1 ∙ ap (λ v. rank_of v rs lease.name back.end) back.populated.futures in
    (back.end, back.has_run, none, c.in_ok-come_back.ensures.committed h code s lease.name back rank)
