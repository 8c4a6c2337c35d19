use Rattle.std.proofs.Common.{◌≡◌, sym, subst, is_some, true}
use Rattle.std.specs.FinMap.{find}
use Rattle.asp_model.specs.Names.{future_cmp}
use Rattle.asp_model.specs.Shapes.{delivery_shape}
use Rattle.core_edges.specs.Answers.{AreAnswered}
use Rattle.core_edges.specs.Deliveries.{future_of}
use Rattle.core_edges.specs.Strategies.{strategy_in}
use Rattle.core_edges.proofs.AnswerLemmas.{on_ok}
use Rattle.core_edges.proofs.PassingLemmas.{same_strategies}
use Rattle.asp_core.proofs.AnswerLemmas.{answered_even}
use Rattle.asp_core.proofs.DeliverLemmas.{delivered_filled, on_ok_is}
use Rattle.asp_core.proofs.PlanLemmas.{labels_stay, others_keep, others_stay, received_stay}
use Rattle.asp_core.proofs.StandLemmas.{delivers}
use Rattle.asp_core.proofs.deliveries.hand.Goals as goal

pub tell-requires : goal.tell-requires
tell-requires g c =
    let r = c.requires.delivery in
    let d = delivery_shape c.args.delivery.now in
    record { filled = subst (λ q. is_some (find future_cmp (future_of d) q) ≡ true) (sym r.3.core.populated.futures) (delivered_filled r.2 d r.4) }

pub deliver-requires : goal.deliver-requires
deliver-requires g c = let r = c.requires.delivery in record { lawful = (r.0, r.1, r.2, r.3.core, r.4) }

pub returns-clause-handed : goal.returns-clause-handed
returns-clause-handed g c = λ h code s homes st labels may.
    let v = c.args.edges.now in
    let w = c.tell.new.edges in
    let d = delivery_shape c.args.delivery.now in
    let others = c.in_ok-tell.ensures.others in
    let even = answered_even g.P.UpdatePolicy.answer g.P.UpdatePolicy.asked (strategy_in v) v w c.in_ok-tell.ensures.answers st.edges.answers in
    on_ok c.deliver.result
    (λ done. (
      done.0,
      delivers h code s c.args.state.now v.holders st w.holders c.deliver.new.state d done.0 done.4 done.2 done.3 (c.in_ok-tell.ensures.told s st.core.populated.futures) even others.activities,
      labels_stay homes s.configuration done.0.configuration v w (received_stay d s done.0 done.1) others.plan (others_stay g.P.UpdatePolicy.answer g.P.UpdatePolicy.asked v w others) labels,
    ))
    (c.deliver.ensures.delivered h code s st.core may)

pub returns-clause-answers : goal.returns-clause-answers
returns-clause-answers g c =
    let v = c.args.edges.now in
    let w = c.tell.new.edges in
    on_ok_is c.deliver.result
    (subst (λ q. AreAnswered g.P.UpdatePolicy.answer g.P.UpdatePolicy.asked q v w) (sym (same_strategies g.P.UpdatePolicy.answer g.P.UpdatePolicy.asked v w c.in_ok-tell.ensures.others)) c.in_ok-tell.ensures.answers)

pub returns-clause-keeps : goal.returns-clause-keeps
returns-clause-keeps g c = on_ok_is c.deliver.result (others_keep g.P.UpdatePolicy.answer g.P.UpdatePolicy.asked c.args.edges.now c.tell.new.edges c.in_ok-tell.ensures.others)
