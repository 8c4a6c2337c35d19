use Rattle.std.proofs.Common.{◌≡◌, ℕ, List, subst}
use Rattle.code_table.specs.declared.code.Node.{Node}
use Rattle.code_table.specs.Classes.{class_at, class_of}
use Rattle.code_table.specs.Sound.{IsSound}
use Rattle.code_table.specs.Tables.{node_piece, piece_at, pieces}
use Rattle.activity_step.proofs.reducing.node_in.Goals as goal

pub returns : goal.returns
returns c = record {
  piece =
      let i : ℕ = c.args.number in
      let n : Node = c.in-Some.node.now in
      let e : c.nodes-nodes.result.now ≡ c.args.code.now = c.nodes-nodes.ensures.nodes in
      subst (λ (k : List Node). IsSound k → piece_at (pieces k) i ≡ node_piece (pieces k) n) e c.in-Some.ensures.piece c.nodes-nodes.ensures.sound;
  class =
      let e : c.nodes-nodes.result.now ≡ c.args.code.now = c.nodes-nodes.ensures.nodes in
      subst (λ (k : List Node). class_at k c.args.number ≡ class_of c.in-Some.node.now.kind) e c.in-Some.ensures.class;
  sound = c.nodes-nodes.ensures.sound;
}
