use Rattle.std.proofs.Common.{List, length, map, option_to_list, subst}
use Rattle.code_table.specs.declared.cells.Cell.{Cell}
use Rattle.code_table.specs.Cells.{span_of}
use Rattle.code_table.specs.Columns.{AreLaid}
use Rattle.code_table.proofs.ColumnLemmas.{laid_left}
use Rattle.code_table.proofs.columns.Columns.pop.Goals as goal

pub invariant_of-self : goal.invariant_of-self
invariant_of-self c =
    let n = length c.self.inside.words.items in
    laid_left n c.pop.new.self.items (option_to_list c.pop.result) (subst (λ (cs : List Cell). AreLaid n (map span_of cs)) c.pop.ensures.items c.self.invariant)
