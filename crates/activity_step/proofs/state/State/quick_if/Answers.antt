use Rattle.std.proofs.Common.{rules, ◌≡◌, ℕ, List, sym, ap, subst, ◌∙◌, to_z, of_z, w64}
use Rattle.asp_model.specs.Store.{Number}
use Rattle.step_rows.specs.declared.asks.Test.TheVariants as test
use Rattle.step_rows.specs.Asks.{IsTest}
use Rattle.step_machine.specs.Stacks.{last}
use Rattle.activity_step.proofs.state.State.quick_if.Goals as goal

pub returns : goal.returns
returns c = record {
  taken = λ k at from t vs s ls h here is.
      let q = c.args.self.now.store.cells in
      let ops : List ℕ = last c.args.count c.args.self.now.machine.operands.items in
      let p : ℕ = c.in-Some._place in
      let told : IsTest k q ops (test.Number p c.in-Some.number) = subst (λ (l : List ℕ). IsTest k q l (test.Number p c.in-Some.number)) c.last_operands-operands.ensures.operands (c.in-Some.ensures.test k) in
      let same : to_z w64 (of_z w64 c.in-Some.number) ≡ c.in-Some.number = search rules in
      c.taken.ensures.taken k c.choose.new.self t vs s ls (c.choose.ensures.advance k at from p t vs s ls h here is told.0 (told.1 ∙ ap Number (sym same)));
}
