use Rattle.std.proofs.Common.{arith}
use Rattle.core_sets.proofs.MarkLemmas.{none_marked, root_unmarked}
use Rattle.core_sets.proofs.marks.Marks.next.Goals as goal

pub returns-then-not-index : goal.returns-then-not-index
returns-then-not-index c =
    let m = c.args.self.now in
    record {
      first = none_marked m c.args.start c.requires.tree (omega (arith, c.if-start-room.false, c.len-room.ensures)) (root_unmarked m.nodes.items c.index.result.now c.index.ensures c.if-not-index.true);
    }
