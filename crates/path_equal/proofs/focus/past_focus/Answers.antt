use Rattle.std.proofs.Common.{◌≡◌, List, ℕ, drop, ap, subst, sym, ◌∙◌}
use Rattle.asp_model.specs.Term.{Call, locations, locs_then, node, none}
use Rattle.step_machine.specs.declared.frames.Focus.{Focus}
use Rattle.step_machine.specs.Calls.{IsCalled}
use Rattle.step_machine.specs.Stacks.{last}
use Rattle.step_machine.specs.Standing.{IsFocus, taken}
use Rattle.path_equal.specs.Searches.{searched}
use Rattle.path_equal.proofs.CallLemmas.{places_found}
use Rattle.path_equal.proofs.focus.past_focus.Goals as goal

pub returns-in-Asked : goal.returns-in-Asked
returns-in-Asked c = record {
  searched = λ t h.
      let m = c.args.machine.now in
      let own : List ℕ = last c.in-Asked.count m.operands.items in
      let is : t ≡ node (Call m.asked.label.text) (locs_then own none) =
      subst (λ (f : Focus). IsFocus c.args.code.now m.asked.label.text (drop m.base m.env.items) (last (taken f) m.operands.items) f t) c.in-Asked.is h in
      c.past.ensures.searched
      ∙ ap (λ (xs : List ℕ). searched xs c.args.start) (c.last_of.ensures.places ∙ ap (last c.in-Asked.count) c.deref-in-Asked.ensures.value ∙ sym (ap locations is ∙ places_found own));
}

pub returns-in-Called : goal.returns-in-Called
returns-in-Called c = record {
  searched = λ t h.
      let m = c.args.machine.now in
      let own : List ℕ = last c.in-Called.count m.operands.items in
      let called : IsCalled c.args.code.now own c.in-Called.number t =
      subst (λ (f : Focus). IsFocus c.args.code.now m.asked.label.text (drop m.base m.env.items) (last (taken f) m.operands.items) f t) c.in-Called.is h in
      c.past-in-Called.ensures.searched
      ∙ ap (λ (xs : List ℕ). searched xs c.args.start) (c.last_of-in-Called.ensures.places ∙ ap (last c.in-Called.count) c.deref-in-Called.ensures.value ∙ sym (ap locations called.is ∙ places_found own));
}
