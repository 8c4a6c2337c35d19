use Rattle.std.proofs.Common.{rules, ◌≡◌, ◌+◌, length, arith}
use Rattle.activity_step.proofs.state.State.steps_advance.Goals as goal

pub returns-then-end-len : goal.returns-then-end-len
returns-then-end-len c = record {
  advance = λ k t vs s ls h at is.
      let size : c.args.from + 2 ≡ length c.args.node.now.children.items = search (rules, c.in_ok-end.ensures, c.checked_add.ensures, c.len.ensures, c.if-end-len.true) in
      c.last_step.ensures.advance k c.args.number c.in-Some._place t vs s ls h at is c.in-Some.ensures.one size;
}

pub returns-else-end-len : goal.returns-else-end-len
returns-else-end-len c = record {
  advance = λ k t vs s ls h at is.
      let end_is : c.in_ok-end.end ≡ c.args.from + 2 = search (rules, c.in_ok-end.ensures, c.checked_add.ensures) in
      let differs : c.args.from + 2 ≡ length c.args.node.now.children.items → ⊥ = λ e. omega (arith, e, end_is, c.len.ensures, c.if-end-len.false) in
      c.next_steps.ensures.advance k c.in-Some._place t vs s ls h at is c.in-Some.ensures.one differs;
}
