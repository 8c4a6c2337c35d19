use Rattle.std.proofs.Common.{List, subst, sym, ap, ◌∙◌}
use Rattle.code_table.specs.declared.code.Node.{Node}
use Rattle.code_table.specs.Classes.{class_of}
use Rattle.code_table.specs.Sound.{AllBelow}
use Rattle.code_table.specs.Tables.{node_piece, pieces}
use Rattle.code_table.proofs.TableLemmas.{below_at, class_seen, node_here}
use Rattle.step_machine.proofs.nodes.node_at.Goals as goal

pub returns-in-Some : goal.returns-in-Some
returns-in-Some c = record {
  piece = λ sound.
      let k : List Node = c.args.nodes.now in
      let look = c.in-Some.ensures.lookup.3 in
      let n : Node = c.in-Some.node.now in
      node_here k c.args.number n look.0 sound ∙ ap (node_piece (pieces k)) (sym (look.1 n));
  class =
      let k : List Node = c.args.nodes.now in
      let look = c.in-Some.ensures.lookup.3 in
      let n : Node = c.in-Some.node.now in
      class_seen k c.args.number n look.0 ∙ ap (λ (m : Node). class_of m.kind) (sym (look.1 n));
  below = λ sound.
      let k : List Node = c.args.nodes.now in
      let look = c.in-Some.ensures.lookup.3 in
      let n : Node = c.in-Some.node.now in
      subst (λ (m : Node). AllBelow c.args.number m.children.items) (sym (look.1 n)) (below_at k c.args.number n look.0 sound).0;
}
