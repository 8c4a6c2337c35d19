use Rattle.std.proofs.Common.{subst}
use Rattle.code_table.specs.Cells.{coded}
use Rattle.code_table.specs.declared.cells.View.{View}
use Rattle.deep_copy.specs.Leaves.{IsLeaf}
use Rattle.deep_copy.proofs.copied.leaf_cell.Goals as goal

pub unreachable-requires : goal.unreachable-requires
unreachable-requires c = subst (λ (v : View). IsLeaf (coded v)) c.in-Group.is c.requires.leaf
