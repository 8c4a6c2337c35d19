use Rattle.std.proofs.Common.{rules, ◌≡◌, ℤ, List, drop, sym, ap, subst, ◌∙◌, to_z, of_z, w64}
use Rattle.code_table.specs.declared.code.Node.{Node}
use Rattle.code_table.specs.Tables.{pieces, piece_of}
use Rattle.step_machine.specs.declared.frames.Nested.TheVariants as nested
use Rattle.step_machine.specs.Sites.{IsRedexOf}
use Rattle.step_machine.proofs.machine.Machine.nested_sign.Goals as goal

pub returns-in-Some-place_of : goal.returns-in-Some-place_of
returns-in-Some-place_of c = record {
  redex = λ sign_is first.
      let k : List Node = c.args.nodes.now in
      (sign_is, first, record { leaf = c.in-Leaf.leaf; is = c.in-Some.ensures.child (pieces k) ∙ ap (piece_of (pieces k)) c.in-Leaf.is; place = c.in-Some-place_of.ensures.place });
}

pub returns-in-Some-number_at : goal.returns-in-Some-number_at
returns-in-Some-number_at c = record {
  redex = λ sign_is first.
      let k : List Node = c.args.nodes.now in
      let ns = drop c.args.self.now.base c.args.self.now.env.items in
      let same : to_z w64 (of_z w64 c.in-Some-number_at.value) ≡ c.in-Some-number_at.value = search rules in
      let is : IsRedexOf k ns c.args.node.now (nested.OperateNumber c.args.sign c.args.first c.in-Some-number_at.value) =
      (sign_is, first, record { inner = c.in-Node.inner; is = c.in-Some.ensures.child (pieces k) ∙ ap (piece_of (pieces k)) c.in-Node.is; number = c.in-Some-number_at.ensures.number c.requires.sound }) in
      subst (λ (z : ℤ). IsRedexOf k ns c.args.node.now (nested.OperateNumber c.args.sign c.args.first z)) (sym same) is;
}
