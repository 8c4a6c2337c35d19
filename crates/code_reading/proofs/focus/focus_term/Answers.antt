use Rattle.std.proofs.Common.{◌≡◌, ◌∙◌, List, ℕ, drop, map, subst, sym, ap}
use Rattle.asp_model.specs.declared.term.Term.{Term}
use Rattle.asp_model.specs.declared.word.Label.{Label}
use Rattle.asp_model.specs.Shapes.{tree_of}
use Rattle.asp_model.specs.Term.{Call, Tree, node, trees, loc}
use Rattle.code_table.specs.Pieces.{Piece}
use Rattle.code_table.specs.Tables.{piece_at, pieces}
use Rattle.code_laws.specs.Nodes as nodes
use Rattle.code_reading.specs.Decoded.{IsRedexIn}
use Rattle.code_reading.proofs.BehindLemmas.{if_ok}
use Rattle.step_machine.specs.declared.frames.Focus.{Focus}
use Rattle.step_machine.specs.declared.frames.Focus.TheVariants as focus
use Rattle.step_machine.specs.Stacks.{last}
use Rattle.step_machine.specs.Calls.{IsCalled, IsDealt}
use Rattle.step_machine.specs.Standing.{IsBegun, IsFocus, taken}
use Rattle.code_reading.proofs.TermLemmas.{redex_is, locs_alone}
use Rattle.code_reading.proofs.focus.focus_term.Goals as goal

pub returns-else-number-nodes : goal.returns-else-number-nodes
returns-else-number-nodes c = record {
  inner = λ t stands.
      let ns : List ℕ = drop c.args.machine.now.base c.args.machine.now.env.items in
      let ops : List ℕ = c.args.machine.now.operands.items in
      let own : List ℕ = last c.in-Node.done ops in
      let begun : IsBegun c.args.code.now ns own c.in-Node.number c.in-Node.from t =
      subst (λ (f : Focus). IsFocus c.args.code.now c.args.machine.now.asked.label.text ns (last (taken f) ops) f t) c.in-Node.is stands in
      let p : Piece = nodes.later c.in-Node.from (piece_at (pieces c.args.code.now) c.in-Node.number) in
      let places_are : c.behind-places.result.now ≡ ns = c.behind-places.ensures.places ∙ ap (drop c.args.machine.now.base) c.deref.ensures.value in
      let own_is : c.last_of-own.result.now ≡ own = c.last_of-own.ensures.places ∙ ap (last c.in-Node.done) c.deref-in-Node.ensures.value in
      if_ok c.redex_of.result (λ (r : Term). IsRedexIn c.behind-places.result.now c.last_of-own.result.now p (tree_of r)) (λ (r : Term). tree_of r ≡ t)
      (λ r h. redex_is c.args.code.now ns own c.in-Node.number c.in-Node.from (tree_of r) t
      (subst (λ (l : List ℕ). IsRedexIn ns l p (tree_of r)) own_is (subst (λ (l : List ℕ). IsRedexIn l c.last_of-own.result.now p (tree_of r)) places_are h)) begun)
      c.redex_of.ensures.redex;
}

pub returns-in-Asked : goal.returns-in-Asked
returns-in-Asked c = record {
  inner = λ t stands.
      let ns : List ℕ = drop c.args.machine.now.base c.args.machine.now.env.items in
      let ops : List ℕ = c.args.machine.now.operands.items in
      let own : List ℕ = last c.in-Asked.count ops in
      let is : IsFocus c.args.code.now c.args.machine.now.asked.label.text ns own (focus.Asked c.in-Asked.count) t =
      subst (λ (f : Focus). IsFocus c.args.code.now c.args.machine.now.asked.label.text ns (last (taken f) ops) f t) c.in-Asked.is stands in
      let own_is : c.last_of-own-in-Asked.result.now ≡ own = c.last_of-own-in-Asked.ensures.places ∙ ap (last c.in-Asked.count) c.deref-in-Asked.ensures.value in
      let given : List Tree = map loc c.last_of-own-in-Asked.result.now in
      if_ok c.call_of.result (λ (r : Term). tree_of r ≡ node (Call c.as_label.result.now.text) (trees given)) (λ (r : Term). tree_of r ≡ t)
      (λ r h. h ∙ ap (λ (l : Label). node (Call l.text) (trees given)) c.as_label.ensures.label
      ∙ ap (λ (l : List ℕ). node (Call c.args.machine.now.asked.label.text) (trees (map loc l))) own_is ∙ ap (node (Call c.args.machine.now.asked.label.text)) (locs_alone own) ∙ sym is)
      c.call_of.ensures.call;
}

pub returns-in-Calls : goal.returns-in-Calls
returns-in-Calls c = record {
  inner = λ t stands.
      let ns : List ℕ = drop c.args.machine.now.base c.args.machine.now.env.items in
      let ops : List ℕ = c.args.machine.now.operands.items in
      let own : List ℕ = last c.in-Calls.done ops in
      let is : IsFocus c.args.code.now c.args.machine.now.asked.label.text ns own (focus.Calls c.in-Calls.spread c.in-Calls.number c.in-Calls.members c.in-Calls.done) t =
      subst (λ (f : Focus). IsFocus c.args.code.now c.args.machine.now.asked.label.text ns (last (taken f) ops) f t) c.in-Calls.is stands in
      let own_is : c.last_of-own-in-Calls.result.now ≡ own = c.last_of-own-in-Calls.ensures.places ∙ ap (last c.in-Calls.done) c.deref-in-Calls.ensures.value in
      c.dealt_term.ensures.term t (subst (λ (l : List ℕ). IsDealt c.args.code.now c.in-Calls.spread l c.in-Calls.number c.in-Calls.members t) (sym own_is) is);
}

pub returns-in-Called : goal.returns-in-Called
returns-in-Called c = record {
  inner = λ t stands.
      let ns : List ℕ = drop c.args.machine.now.base c.args.machine.now.env.items in
      let ops : List ℕ = c.args.machine.now.operands.items in
      let own : List ℕ = last c.in-Called.count ops in
      let is : IsFocus c.args.code.now c.args.machine.now.asked.label.text ns own (focus.Called c.in-Called.number c.in-Called.count) t =
      subst (λ (f : Focus). IsFocus c.args.code.now c.args.machine.now.asked.label.text ns (last (taken f) ops) f t) c.in-Called.is stands in
      let own_is : c.last_of-own-in-Called.result.now ≡ own = c.last_of-own-in-Called.ensures.places ∙ ap (last c.in-Called.count) c.deref-in-Called.ensures.value in
      c.called_term.ensures.term t (subst (λ (l : List ℕ). IsCalled c.args.code.now l c.in-Called.number t) (sym own_is) is);
}
