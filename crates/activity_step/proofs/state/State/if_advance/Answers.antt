use Rattle.std.proofs.Common.{rules, ◌≡◌, ℕ, List, sym, ap, subst, ◌∙◌, to_z, of_z, w64}
use Rattle.asp_model.specs.Term.{If, none, more}
use Rattle.asp_model.specs.Store.{Number}
use Rattle.step_rows.specs.declared.asks.Test.TheVariants as test
use Rattle.step_rows.specs.Asks.{IsTest}
use Rattle.step_machine.specs.Rows.{IsAtIf}
use Rattle.step_machine.specs.Stacks.{last}
use Rattle.step_machine.specs.Standing.{view_of}
use Rattle.activity_step.proofs.TermLemmas.{choice_at}
use Rattle.activity_step.proofs.state.State.if_advance.Goals as goal

pub returns-in-Number : goal.returns-in-Number
returns-in-Number c = record {
  advance = λ number from t vs s ls h at is.
      let k = c.args.code.now in
      let q = c.args.self.now.store.cells in
      let ops : List ℕ = last c.args.count c.args.self.now.machine.operands.items in
      let p : ℕ = c.in-Number.field-0 in
      let told : IsTest k q ops (test.Number p c.in-Number.number) = subst (λ (l : List ℕ). IsTest k q l (test.Number p c.in-Number.number)) c.last_operands-operands.ensures.operands (subst (IsTest k q c.last_operands-operands.result.now) c.in-Number.is (c.in_ok-number.ensures.test k)) in
      let same : to_z w64 (of_z w64 c.in-Number.number) ≡ c.in-Number.number = search rules in
      c.choose.ensures.advance k number from p t vs s ls h at is told.0 (told.1 ∙ ap Number (sym same));
}

pub returns-in-Other : goal.returns-in-Other
returns-in-Other c = record {
  advance = λ number from t vs s ls h at is.
      let k = c.args.code.now in
      let q = c.args.self.now.store.cells in
      let ops : List ℕ = last c.args.count c.args.self.now.machine.operands.items in
      let told : IsTest k q ops (test.Other c.in-Other.decision) = subst (λ (l : List ℕ). IsTest k q l (test.Other c.in-Other.decision)) c.last_operands-operands.ensures.operands (subst (IsTest k q c.last_operands-operands.result.now) c.in-Other.is (c.in_ok-number.ensures.test k)) in
      let a : IsAtIf k (view_of c.args.self.now.machine) t vs c.args.count = choice_at k (view_of c.args.self.now.machine) number from c.args.count c.args.node.now t vs h.machine at is in
      c.decided_advance.ensures.advance k t vs s ls (record { head = If; places = ops; behind = more a.first (more a.second none) }) h a.at (told a.first a.second);
}
