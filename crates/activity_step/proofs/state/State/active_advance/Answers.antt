use Rattle.std.proofs.Common.{ℕ, List, subst}
use Rattle.asp_model.specs.Term.{Active}
use Rattle.step_rows.specs.declared.asks.Creation.TheVariants as creation
use Rattle.step_rows.specs.Asks.{IsCreation}
use Rattle.step_rows.specs.Decisions.{value_redex}
use Rattle.step_machine.specs.Stacks.{last}
use Rattle.activity_step.specs.declared.advance.Advance.TheVariants as advance
use Rattle.activity_step.proofs.AdvanceLemmas.{stopped}
use Rattle.activity_step.proofs.state.State.active_advance.Goals as goal

pub returns-in-Creates : goal.returns-in-Creates
returns-in-Creates c = record {
  advance = λ k service t vs s ls h at.
      let a = c.args.self.now in
      let q = a.store.cells in
      let ops : List ℕ = last c.args.count a.machine.operands.items in
      let p : ℕ = c.in-Creates.place in
      let told : IsCreation k q ops service (creation.Creates p) = subst (λ (l : List ℕ). IsCreation k q l service (creation.Creates p)) c.last_operands-operands.ensures.operands (subst (IsCreation k q c.last_operands-operands.result.now service) c.in-Creates.is (c.in_ok-creation.ensures.creation k service)) in
      stopped k a t vs s ls c.args.go c.args.count (value_redex (Active service) ops) (advance.Creates p) h at (service, told.1);
}

pub returns-in-Other : goal.returns-in-Other
returns-in-Other c = record {
  advance = λ k service t vs s ls h at.
      let a = c.args.self.now in
      let q = a.store.cells in
      let ops : List ℕ = last c.args.count a.machine.operands.items in
      let told : IsCreation k q ops service (creation.Other c.in-Other.decision) = subst (λ (l : List ℕ). IsCreation k q l service (creation.Other c.in-Other.decision)) c.last_operands-operands.ensures.operands (subst (IsCreation k q c.last_operands-operands.result.now service) c.in-Other.is (c.in_ok-creation.ensures.creation k service)) in
      c.decided_advance.ensures.advance k t vs s ls (value_redex (Active service) ops) h at told;
}
