use Rattle.std.proofs.Common.{◌≡◌, ◌<◌, ℕ, List, length, get_or, sym, subst}
use Rattle.code_table.specs.declared.code.Child.{Child}
use Rattle.code_table.specs.declared.code.Node.{Node}
use Rattle.code_table.specs.Sound.{IsBelow}
use Rattle.step_machine.proofs.SequenceLemmas.{next_part_of, one_below}
use Rattle.step_machine.proofs.nodes.next_child.Goals as goal

pub returns : goal.returns
returns c = record {
  child = λ ps less.
      let n : Node = c.args.node.now in
      let i : ℕ = c.in-Some.number in
      let x : Child = c.in-Some-get.child.now in
      let look = c.in-Some-get.ensures.lookup.3 in
      let lt : i < length n.children.items = subst (λ (l : List Child). i < length l) c.deref.ensures.value look.0 in
      let is : x ≡ get_or n.children.items i x = subst (λ (l : List Child). x ≡ get_or l i x) c.deref.ensures.value (look.1 x) in
      next_part_of c.args.from c.args.done ps n i x less c.in-Some.ensures.number lt is;
  below = λ m all.
      let n : Node = c.args.node.now in
      let i : ℕ = c.in-Some.number in
      let x : Child = c.in-Some-get.child.now in
      let look = c.in-Some-get.ensures.lookup.3 in
      let lt : i < length n.children.items = subst (λ (l : List Child). i < length l) c.deref.ensures.value look.0 in
      let is : x ≡ get_or n.children.items i x = subst (λ (l : List Child). x ≡ get_or l i x) c.deref.ensures.value (look.1 x) in
      subst (IsBelow m) (sym is) (one_below m n.children.items i x lt all);
}
