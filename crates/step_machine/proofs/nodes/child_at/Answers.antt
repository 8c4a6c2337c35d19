use Rattle.std.proofs.Common.{◌≡◌, ◌<◌, ℕ, List, length, get_or, sym, ap, subst, ◌∙◌}
use Rattle.code_table.specs.declared.code.Child.{Child}
use Rattle.code_table.specs.declared.code.Node.{Node}
use Rattle.code_table.specs.Tables.{piece_of}
use Rattle.code_laws.proofs.NodeLemmas.{part_at}
use Rattle.step_machine.proofs.nodes.child_at.Goals as goal

pub returns : goal.returns
returns c = record {
  child = λ ps.
      let n : Node = c.args.node.now in
      let i : ℕ = c.args.number in
      let x : Child = c.in-Some.child.now in
      let look = c.in-Some.ensures.lookup.3 in
      let lt : i < length n.children.items = subst (λ (l : List Child). i < length l) c.deref.ensures.value look.0 in
      let is : x ≡ get_or n.children.items i x = subst (λ (l : List Child). x ≡ get_or l i x) c.deref.ensures.value (look.1 x) in
      part_at ps n.children.items i x lt ∙ ap (piece_of ps) (sym is);
}
