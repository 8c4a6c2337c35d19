use Rattle.std.proofs.Common.{◌≡◌, ℤ, List, IfOk, sym, ap, subst, ◌∙◌, to_z, of_z, w64, rules}
use Rattle.asp_model.specs.declared.outcome.Line.{Line}
use Rattle.step_rows.specs.declared.decision.Decision.{Decision}
use Rattle.step_rows.specs.declared.decision.Decision.TheVariants as decision
use Rattle.activity_step.specs.Advances.{IsPerformed}
use Rattle.activity_step.proofs.performing.perform.Goals as goal

pub returns-in-Number : goal.returns-in-Number
returns-in-Number c = record {
  performed = λ k.
      let old = c.args.store.now.cells in
      let new = c.add_number.new.store.cells in
      let lines : List Line = c.args.lines.now.items in
      let same : to_z w64 (of_z w64 c.in-Number.number) ≡ c.in-Number.number = search rules in
      let is : decision.Number (to_z w64 (of_z w64 c.in-Number.number)) ≡ c.args.decision = ap (λ (z : ℤ). decision.Number z) same ∙ sym c.in-Number.is in
      subst (λ (l : List Line). IfOk c.add_number.result (IsPerformed k old new l l c.args.decision)) c.deref.ensures.value
      (subst (λ (d : Decision). IfOk c.add_number.result (IsPerformed k old new c.deref.result.now c.deref.result.now d)) is (c.add_number.ensures.performed k));
}
