use Rattle.std.proofs.Common.{List, length, map, sym, subst}
use Rattle.code_table.specs.declared.cells.Cell.{Cell}
use Rattle.code_table.specs.Cells.{span_of}
use Rattle.code_table.specs.Columns.{AreLaid}
use Rattle.code_table.proofs.ColumnLemmas.{laid_bare}
use Rattle.code_table.proofs.columns.Columns.push_reserved.Goals as goal

pub invariant_of-self : goal.invariant_of-self
invariant_of-self c =
    let ws = c.self.inside.words.items in
    subst (λ (cs : List Cell). AreLaid (length ws) (map span_of cs)) (sym c.push_reserved.ensures.items) (laid_bare ws c.self.inside.cells.items c.args.cell c.self.invariant c.requires.bare)
