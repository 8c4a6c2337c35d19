use Rattle.std.proofs.Common.{◌≡◌, ◌∙◌, IfSome, refl, subst, sym}
use Rattle.std.specs.Option.{option_map}
use Rattle.std.proofs.lemmas.Result.{on_err_weaker, on_ok_weaker}
use Rattle.core_state.specs.Journal.{entries_in}
use Rattle.core_edges.specs.Strategies.{strategy_in}
use Rattle.core_edges.proofs.AnswerLemmas.{none_answered}
use Rattle.core_state.specs.Arrivals.{IsArrived}
use Rattle.asp_core.specs.Bringing.{HasActed, IsComeBy}
use Rattle.asp_core.proofs.DeliverLemmas.{on_ok_is}
use Rattle.asp_core.proofs.LeaseLemmas.{lease_acting}
use Rattle.asp_core.proofs.PlanLemmas.{keeps_itself}
use Rattle.asp_core.proofs.commits.come.Goals as goal

pub arrive-requires : goal.arrive-requires
arrive-requires g c = let r = c.requires.lease in record { lease = (r.0, r.1, r.2, r.3.core, r.4) }

pub act-requires : goal.act-requires
act-requires g c =
    let r = c.requires.lease in
    let l = c.args.lease in
    let z = c.arrive.new.state in
    let was = subst (λ o. IsArrived r.0 r.1 z r.2 l.number r.4.name l.grant l.taken (option_map (λ b. b.value) o)) c.in-Some.is (c.in_ok-arrive.ensures.arrived r.0 r.1 r.2 r.3.core r.4) in
    let acting = lease_acting r.0 r.1 r.2 c.args.state.now c.args.edges.now.holders r.3 l r.4 z c.in-Some.actor.value c.with_communication-reductions.result c.with_communication-reductions.ensures.entered was in
    record { acting = (r.0, r.1, r.2, r.4.name, was.0, c.args.state.now, r.3, acting) }

pub returns-in-None-clause-come : goal.returns-in-None-clause-come
returns-in-None-clause-come g c = λ h code s st l.
    let lease = c.args.lease in
    let z = c.arrive.new.state in
    let v = c.args.edges.now in
    let was = subst (λ o. IsArrived h code z s lease.number l.name lease.grant lease.taken (option_map (λ b. b.value) o)) c.in-None.is (c.in_ok-arrive.ensures.arrived h code s st.core l) in
    record { end = was.0; has_run = was.1; come = subst (λ o. IsComeBy h code s lease.number l.name lease.grant lease.taken was.0 o z v v) (sym was.2) (was.3, refl) }

pub returns-in-None-clause-answers : goal.returns-in-None-clause-answers
returns-in-None-clause-answers g c = none_answered g.P.UpdatePolicy.answer g.P.UpdatePolicy.asked (strategy_in c.args.edges.now) c.args.edges.now c.args.edges.now refl refl refl

pub returns-in-None-clause-keeps : goal.returns-in-None-clause-keeps
returns-in-None-clause-keeps g c = keeps_itself c.args.edges.now

pub returns-in-Some-clause-come : goal.returns-in-Some-clause-come
returns-in-Some-clause-come g c = λ h code s st l.
    let lease = c.args.lease in
    let x = c.args.state.now in
    let z = c.arrive.new.state in
    let y = c.act.new.state in
    let v = c.args.edges.now in
    let u = c.act.new.edges in
    let a = c.in-Some.actor.value in
    let was = subst (λ o. IsArrived h code z s lease.number l.name lease.grant lease.taken (option_map (λ b. b.value) o)) c.in-Some.is (c.in_ok-arrive.ensures.arrived h code s st.core l) in
    let acting = lease_acting h code s x v.holders st lease l z a c.with_communication-reductions.result c.with_communication-reductions.ensures.entered was in
    on_ok_weaker c.act.result
    (λ acted. record {
      end = was.1.end;
      has_run = was.1.has_run;
      come = subst (λ o. IsComeBy h code s lease.number l.name lease.grant lease.taken was.1.end o y v u) (sym was.2)
          (acting.intends, subst (λ q. HasActed h code s lease.number l.name lease.grant q was.1.end was.0 y v u) acting.more acted);
    })
    (c.act.ensures.acted h code s l.name was.0 acting)

pub returns-in-Some-clause-entries : goal.returns-in-Some-clause-entries
returns-in-Some-clause-entries g c =
    let x = c.args.state.now in
    let z = c.arrive.new.state in
    let waits : entries_in z.journal ≡ entries_in x.journal = subst (λ o. IfSome o (λ b. entries_in z.journal ≡ entries_in x.journal)) c.in-Some.is c.in_ok-arrive.ensures.waits in
    on_err_weaker c.act.result (λ same. same ∙ waits) c.act.ensures.entries

pub returns-in-None-clause-fresh : goal.returns-in-None-clause-fresh
returns-in-None-clause-fresh g c = c.in_ok-arrive.ensures.fresh

pub returns-in-Some-clause-fresh : goal.returns-in-Some-clause-fresh
returns-in-Some-clause-fresh g c = on_ok_is c.act.result c.in_ok-arrive.ensures.fresh
