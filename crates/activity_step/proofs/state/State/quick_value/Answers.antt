use Rattle.std.proofs.Common.{◌≡◌, ℕ, List, subst}
use Rattle.asp_model.specs.Contraction.{contract}
use Rattle.code_table.specs.Tables.{kind_head}
use Rattle.code_table.specs.Shapes.{store_of}
use Rattle.step_rows.specs.Decisions.{decided, value_redex}
use Rattle.step_machine.specs.Stacks.{last}
use Rattle.activity_step.proofs.state.State.quick_value.Goals as goal

pub returns : goal.returns
returns c = record {
  taken = λ t vs s ls h at.
      let k = c.args.code.now in
      let q = c.args.self.now.store.cells in
      let ops : List ℕ = last c.args.count c.args.self.now.machine.operands.items in
      c.taken.ensures.taken k c.decided_advance.new.self t vs s ls (c.decided_advance.ensures.advance k t vs s ls (value_redex (kind_head c.args.kind.now) ops) h at
      (subst (λ (l : List ℕ). contract (store_of k q) (value_redex (kind_head c.args.kind.now) l) ≡ decided k q c.in-Some.decision) c.last_operands-operands.ensures.operands c.in-Some.ensures.decided));
}
