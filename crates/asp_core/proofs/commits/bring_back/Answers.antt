use Rattle.core_edges.specs.Strategies.{strategy_in}
use Rattle.asp_core.proofs.AnswerLemmas.{answered_even, answered_then}
use Rattle.asp_core.proofs.BringLemmas.{brought_back}
use Rattle.asp_core.proofs.LeaseLemmas.{lease_met}
use Rattle.asp_core.proofs.PlanLemmas.{keeps_then}
use Rattle.asp_core.proofs.commits.bring_back.Goals as goal

pub returned-requires : goal.returned-requires
returned-requires g c =
    let r = c.requires.lease in
    record { met = lease_met r.0 r.1 r.2 c.come.new.state c.args.edges.now c.come.new.edges c.args.state.now r.3 c.args.lease r.4 (c.in_ok-come.ensures.come r.0 r.1 r.2 r.3 r.4) }

pub returns-clause-back : goal.returns-clause-back
returns-clause-back g c = λ h code s homes st labels l.
    let x = c.args.state.now in
    let v = c.args.edges.now in
    let u = c.come.new.edges in
    let w = c.returned.new.self in
    let lease = c.args.lease in
    let even = answered_even g.P.UpdatePolicy.answer g.P.UpdatePolicy.asked (strategy_in u) v u c.in_ok-come.ensures.answers st.edges.answers in
    brought_back homes h code s x v st labels lease.number l.name lease.grant lease.taken c.come.new.state u w c.returned.ensures.edges even c.returned.ensures.turned (c.in_ok-come.ensures.come h code s st l)

pub returns-clause-answers : goal.returns-clause-answers
returns-clause-answers g c =
    answered_then g.P.UpdatePolicy.answer g.P.UpdatePolicy.asked c.args.edges.now c.come.new.edges c.returned.new.self c.in_ok-come.ensures.answers c.returned.ensures.edges

pub returns-clause-keeps : goal.returns-clause-keeps
returns-clause-keeps g c = keeps_then c.args.edges.now c.come.new.edges c.returned.new.self c.in_ok-come.ensures.keeps c.returned.ensures.edges
