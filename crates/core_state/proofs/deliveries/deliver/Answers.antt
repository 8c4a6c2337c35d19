use Rattle.std.proofs.Common.{◌≡◌, OnOk, is_some, sym, subst, true}
use Rattle.std.proofs.lemmas.Result.{on_ok_weaker}
use Rattle.asp_model.specs.Shapes.{delivery_shape, future_shape}
use Rattle.def_journals.specs.Journals.{delivered}
use Rattle.law_chases.proofs.FutureLemmas.{true_false}
use Rattle.core_state.specs.Deliveries.{IsDelivered, IsNeeded}
use Rattle.core_state.proofs.TargetLemmas.{edge_is_delivered, need_there}
use Rattle.core_state.proofs.deliveries.deliver.Goals as goal

pub unreachable-requires : goal.unreachable-requires
unreachable-requires c =
    let r = c.requires.lawful in
    true_false _ (subst (λ d. is_some (delivered (delivery_shape d) r.2) ≡ true) c.in-Edge.is r.4) (c.in_default.ensures.target r.0 r.1 r.2 r.3)

pub unreachable-requires-in_default-need_target : goal.unreachable-requires-in_default-need_target
unreachable-requires-in_default-need_target c =
    let r = c.requires.lawful in
    true_false _ (subst (λ d. is_some (delivered (delivery_shape d) r.2) ≡ true) c.in-Need.is r.4) (c.in_default-need_target.ensures.target r.0 r.1 r.2 r.3)

pub deliver_edge-requires : goal.deliver_edge-requires
deliver_edge-requires c =
    let r = c.requires.lawful in
    record { passed = (r.0, r.1, r.2, r.3, (c.in-Some.ensures.target r.0 r.1 r.2 r.3).0) }

pub deliver_need-requires : goal.deliver_need-requires
deliver_need-requires c =
    let r = c.requires.lawful in
    let t = c.in-Some-need_target.ensures.target r.0 r.1 r.2 r.3 in
    record { need = (r.0, r.1, r.2, r.3, subst (λ p. IsNeeded r.2 c.in-Some-need_target.spot.number p (future_shape c.in-Need.future)) (sym t.0) t.1) }

pub returns-in-Some-clause-delivered : goal.returns-in-Some-clause-delivered
returns-in-Some-clause-delivered c = λ h code s core goes.
    let t = c.in-Some.ensures.target h code s core in
    subst (λ d. OnOk c.deliver_edge.result (IsDelivered h code s (delivery_shape d) c.deliver_edge.new.state)) (sym c.in-Edge.is)
    (on_ok_weaker c.deliver_edge.result
    (edge_is_delivered s core.numbered h code c.deliver_edge.new.state c.in-Some.number (future_shape c.in-Edge.future) c.in-Edge.from c.in-Edge.to t.0 t.1)
    (c.deliver_edge.ensures.delivered h code s core t.0))

pub returns-in-Some-need_target-clause-delivered : goal.returns-in-Some-need_target-clause-delivered
returns-in-Some-need_target-clause-delivered c = λ h code s core goes.
    let t = c.in-Some-need_target.ensures.target h code s core in
    subst (λ d. OnOk c.deliver_need.result (IsDelivered h code s (delivery_shape d) c.deliver_need.new.state)) (sym c.in-Need.is)
    (need_there s core.numbered h code c.deliver_need.new.state c.deliver_need.result c.in-Some-need_target.spot.number c.in-Some-need_target.spot.loc c.in-Need.loc (future_shape c.in-Need.future) c.in-Need.to t.0
    (c.deliver_need.ensures.delivered h code s core) t.1 t.2)
