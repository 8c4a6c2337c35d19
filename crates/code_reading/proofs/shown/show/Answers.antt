use Rattle.std.proofs.Common.{◌≡◌, ◌∙◌, ◌∷◌, ◌++◌, [], List, Option, ℕ, map, reverse, subst, sym, ap}
use Rattle.std.specs.Option.{option_map}
use Rattle.std.specs.declared.alloc.Global.{Global}
use Rattle.std.specs.declared.sync.Arc.{Arc}
use Rattle.asp_model.specs.Configuration.{ServiceShape}
use Rattle.asp_model.specs.Shapes.{tree_of}
use Rattle.asp_model.specs.Term.{Tree}
use Rattle.code_table.specs.declared.code.Node.{Node}
use Rattle.code_table.specs.declared.future.Future.{Future}
use Rattle.code_table.specs.Cells.{held_future}
use Rattle.step_machine.specs.declared.frames.Frame.{Frame}
use Rattle.step_machine.specs.Items.{Item, contexts_of, futures_of}
use Rattle.step_machine.specs.Stacks.{IsStack, but_last}
use Rattle.step_machine.specs.Standing.{taken, view_of}
use Rattle.code_reading.specs.Shown.{IsSegment, hole_tree, service_terms}
use Rattle.code_reading.proofs.ServiceLemmas.{holes_of, suspended_holes_of}
use Rattle.code_reading.proofs.shown.show.Goals as goal

pub returns : goal.returns
returns c = record {
  shown = λ t vs st.
      let k : List Node = c.args.code.now in
      let m = c.args.machine.now in
      let items : List Item = st.items in
      let ops_is : c.all_but.result.now ≡ but_last (taken m.focus) m.operands.items =
      c.all_but.ensures.places ∙ ap (λ (n : ℕ). but_last n c.deref-3.result.now) c.taken_by.ensures.taken ∙ ap (but_last (taken m.focus)) c.deref-3.ensures.value in
      let stack : IsStack k (reverse c.deref.result.now) c.deref-2.result.now c.all_but.result.now items =
      subst (λ (fs : List Frame). IsStack k (reverse fs) c.deref-2.result.now c.all_but.result.now items) (sym c.deref.ensures.value)
      (subst (λ (l : List ℕ). IsStack k (reverse m.frames.items) l c.all_but.result.now items) (sym c.deref-2.ensures.value)
      (subst (λ (l : List ℕ). IsStack k (reverse m.frames.items) m.env.items l items) (sym ops_is) st.stack)) in
      let segment : IsSegment k items (map tree_of c.push.new.self.items) (map tree_of c.in_ok-term.term.items) c.in_ok-term.left.frames.now c.in_ok-term.left.env.now c.in_ok-term.left.operands.now =
      c.in_ok-term.ensures.segment items stack in
      let inner : tree_of c.in_ok-focus_term.field-0 ≡ st.inner = c.in_ok-focus_term.ensures.inner st.inner st.focus in
      let first : map tree_of c.push.new.self.items ≡ st.inner ∷ [] =
      ap (map tree_of) (c.in_ok-push.ensures.items ∙ (λ i. c.new-first.ensures.items i ++ c.in_ok-focus_term.field-0 ∷ [])) ∙ (λ i. inner i ∷ []) in
      let futures : reverse (map (option_map held_future) c.deref-4.result.now) ≡ futures_of segment.left =
      ap (λ (held : List (Option (Arc Future Global))). reverse (map (option_map held_future) held)) c.deref-4.ensures ∙ st.futures ∙ segment.futures in
      record {
        contexts = contexts_of items;
        inner = st.inner;
        term = st.term;
        are = segment.are ∙ ap (λ (us : List Tree). us ++ map hole_tree (contexts_of items)) first;
        suspended = c.in_ok-services.ensures.services segment.left segment.alone segment.stack futures
            ∙ ap (λ (ss : List ServiceShape). map service_terms (reverse ss)) (sym segment.services ∙ sym st.suspended);
        holes = holes_of k (view_of m) t vs st;
        suspended_holes = suspended_holes_of k (view_of m) t vs st;
      };
}
