use Rattle.std.proofs.Common.{◌≡◌, List, ℕ, ap, reverse, subst, sym, ◌∙◌}
use Rattle.step_machine.specs.declared.frames.Frame.{Frame}
use Rattle.step_machine.specs.Stacks.{IsStack, but_last}
use Rattle.step_machine.specs.Standing.{taken}
use Rattle.path_equal.specs.Searches.{place_found}
use Rattle.path_equal.proofs.StackLemmas.{all_found}
use Rattle.path_equal.proofs.stack.nth_place.Goals as goal

pub returns-in-Found : goal.returns-in-Found
returns-in-Found c = record {
  place = λ t vs st.
      let k = c.args.code.now in
      let m = c.args.machine.now in
      let own : c.all_but.result.now ≡ but_last (taken m.focus) m.operands.items =
      c.all_but.ensures.places ∙ ap (λ (n : ℕ). but_last n c.deref-3.result.now) c.taken_by.ensures.taken ∙ ap (but_last (taken m.focus)) c.deref-3.ensures.value in
      let stack : IsStack k (reverse c.deref.result.now) c.deref-2.result.now c.all_but.result.now st.items =
      subst (λ (fs : List Frame). IsStack k (reverse fs) c.deref-2.result.now c.all_but.result.now st.items) (sym c.deref.ensures.value)
      (subst (λ (l : List ℕ). IsStack k (reverse m.frames.items) l c.all_but.result.now st.items) (sym c.deref-2.ensures.value)
      (subst (λ (l : List ℕ). IsStack k (reverse m.frames.items) m.env.items l st.items) (sym own) st.stack)) in
      ap place_found (sym c.in-Found.is)
      ∙ all_found k m t vs st c.args.number c.past_befores-before.result c.past_focus-term.result c.past_contexts-behind.result c.past_services.result
      (c.past_befores-before.ensures.searched c.deref-2.result.now st.items stack) (c.past_focus-term.ensures.searched st.inner st.focus)
      (c.past_contexts-behind.ensures.searched st.items stack) (c.past_services.ensures.searched st.items stack);
}

pub returns-in-Left : goal.returns-in-Left
returns-in-Left c = record {
  place = λ t vs st.
      let k = c.args.code.now in
      let m = c.args.machine.now in
      let own : c.all_but.result.now ≡ but_last (taken m.focus) m.operands.items =
      c.all_but.ensures.places ∙ ap (λ (n : ℕ). but_last n c.deref-3.result.now) c.taken_by.ensures.taken ∙ ap (but_last (taken m.focus)) c.deref-3.ensures.value in
      let stack : IsStack k (reverse c.deref.result.now) c.deref-2.result.now c.all_but.result.now st.items =
      subst (λ (fs : List Frame). IsStack k (reverse fs) c.deref-2.result.now c.all_but.result.now st.items) (sym c.deref.ensures.value)
      (subst (λ (l : List ℕ). IsStack k (reverse m.frames.items) l c.all_but.result.now st.items) (sym c.deref-2.ensures.value)
      (subst (λ (l : List ℕ). IsStack k (reverse m.frames.items) m.env.items l st.items) (sym own) st.stack)) in
      ap place_found (sym c.in-Left.is)
      ∙ all_found k m t vs st c.args.number c.past_befores-before.result c.past_focus-term.result c.past_contexts-behind.result c.past_services.result
      (c.past_befores-before.ensures.searched c.deref-2.result.now st.items stack) (c.past_focus-term.ensures.searched st.inner st.focus)
      (c.past_contexts-behind.ensures.searched st.items stack) (c.past_services.ensures.searched st.items stack);
}
