use Rattle.std.proofs.Common.{◌≡◌, ◌∙◌, is_some, sym, subst}
use Rattle.asp_model.specs.Shapes.{delivery_shape, future_shape}
use Rattle.def_journals.specs.Journals.{delivered}
use Rattle.core_state.proofs.TargetLemmas.{edge_tells, need_tells}
use Rattle.core_state.proofs.deliveries.may_deliver.Goals as goal

pub returns-in-Edge : goal.returns-in-Edge
returns-in-Edge c = record {
  may = λ h code s core.
      subst (λ d. c.is_some.result ≡ is_some (delivered (delivery_shape d) s)) (sym c.in-Edge.is)
      (c.is_some.ensures ∙ edge_tells s core.numbered (future_shape c.in-Edge.future) c.in-Edge.from c.in-Edge.to c.edge_target.result (c.edge_target.ensures.target h code s core));
}

pub returns-in-Need : goal.returns-in-Need
returns-in-Need c = record {
  may = λ h code s core.
      subst (λ d. c.is_some-in-Need.result ≡ is_some (delivered (delivery_shape d) s)) (sym c.in-Need.is)
      (c.is_some-in-Need.ensures ∙ need_tells s core.numbered (future_shape c.in-Need.future) c.in-Need.to c.in-Need.loc c.need_target.result (c.need_target.ensures.target h code s core));
}
