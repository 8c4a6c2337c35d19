use Rattle.std.proofs.Common.{◌≡◌, ◌∙◌, Some, slice_get, sym, ap, subst}
use Rattle.asp_model.specs.Shapes.{delivery_shape}
use Rattle.std.specs.Option.{option_map}
use Rattle.core_state.specs.Next.{IsNextNeed, need_shape}
use Rattle.core_state.proofs.ListLemmas.{name_got}
use Rattle.asp_core.specs.Delivering.{IsDueDelivery}
use Rattle.asp_core.proofs.DeliverLemmas.{due_owed, if_ok, need_owed, owed}
use Rattle.asp_core.proofs.LendLemmas.{named_seat}
use Rattle.asp_core.proofs.deliveries.owed_in.Goals as goal

pub need_of-requires : goal.need_of-requires
need_of-requires g c =
    let r = c.requires.stand in
    let is = subst (IsNextNeed r.2) c.in-Some.is (c.in_ok-needed.ensures.next r.0 r.1 r.2 r.3.core) in
    record { core = (r.0, r.1, r.2, r.3.core); known = named_seat r.0 r.1 r.2 c.args.state.now c.args.edges.now.holders r.3 c.in-Some.needed.number is.0 is.1.named }

pub returns-in_default : goal.returns-in_default
returns-in_default g c = record {
  next = λ h code s st.
      let x = c.args.state.now in
      let v = c.args.edges.now.holders in
      let none = subst (IsNextNeed s) c.in_default.is (c.in_ok-needed.ensures.next h code s st.core) in
      if_ok c.due_in.result (λ o. IsDueDelivery v (option_map delivery_shape o)) (λ o. option_map delivery_shape o ≡ owed h code s x v st)
      (λ o due. sym (due_owed h code s x v st (option_map delivery_shape o) none due)) c.due_in.ensures.due;
}

pub returns : goal.returns
returns g c = record {
  next = λ h code s st.
      let x = c.args.state.now in
      let v = c.args.edges.now.holders in
      let needed = c.in-Some.needed in
      let is = subst (IsNextNeed s) c.in-Some.is (c.in_ok-needed.ensures.next h code s st.core) in
      let named = ap (λ ns. slice_get ns needed.number) st.core.populated.names ∙ sym (name_got s.names needed.number) ∙ is.1.named in
      ap Some (c.in_ok-need_of.ensures.need is.0 named) ∙ sym (need_owed h code s x v st needed.number is.0 (need_shape needed) is.1 is.2);
}
