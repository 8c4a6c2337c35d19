use Rattle.std.proofs.Common.{List, ℕ, drop, take, subst, sym}
use Rattle.step_machine.specs.declared.frames.Form.{Form}
use Rattle.step_machine.specs.Calls.{IsCalling}
use Rattle.step_machine.specs.Items.{Waits}
use Rattle.step_machine.specs.Stacks.{IsItem, last}
use Rattle.code_reading.proofs.frames.frame_term.Goals as goal

pub returns-in-Terms : goal.returns-in-Terms
returns-in-Terms c = record {
  context = λ context item.
      let ns : List ℕ = drop c.args.frame.base (take c.args.frame.height c.args.cursor.now.env.now) in
      let done : List ℕ = last c.args.frame.done c.args.cursor.now.operands.now in
      c.node_term.ensures.context context (subst (λ (x : Form). IsItem c.args.code.now ns done x c.args.frame.node c.args.frame.from (Waits context)) c.in-Terms.is item);
}

pub returns-in-Calls : goal.returns-in-Calls
returns-in-Calls c = record {
  context = λ context item.
      let ns : List ℕ = drop c.args.frame.base (take c.args.frame.height c.args.cursor.now.env.now) in
      let done : List ℕ = last c.args.frame.done c.args.cursor.now.operands.now in
      let calling : IsCalling c.args.code.now c.in-Calls.spread done c.args.frame.node c.args.frame.from context =
      subst (λ (x : Form). IsItem c.args.code.now ns done x c.args.frame.node c.args.frame.from (Waits context)) c.in-Calls.is item in
      c.calling_term.ensures.context context (subst (λ (l : List ℕ). IsCalling c.args.code.now c.in-Calls.spread l c.args.frame.node c.args.frame.from context) (sym c.last_of-own.ensures.places) calling);
}
