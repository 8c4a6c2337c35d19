use Rattle.std.proofs.Common.{◌∙◌, sym, ap, arith}
use Rattle.code_table.specs.Cells.{CodedCell}
use Rattle.code_table.specs.Shapes.{cell_of, store_of}
use Rattle.code_table.proofs.CodedLemmas.{cell-store_of, length-store_of}
use Rattle.state_lines.proofs.SightLemmas.{cell_past}
use Rattle.state_lines.proofs.seen.in_store.Goals as goal

pub returns-then-place-len : goal.returns-then-place-len
returns-then-place-len c =
    let code = c.args.code.now in
    let cs = c.args.store.now.cells in
    record { cell = cell_past (store_of code cs) c.args.place (omega (arith, length-store_of code cs)) }

pub returns : goal.returns
returns c =
    let code = c.args.code.now in
    let cs = c.args.store.now.cells in
    record { cell = c.see.ensures.cell ∙ ap (λ (d : CodedCell). cell_of code d) c.cell.ensures.cell ∙ sym (cell-store_of code cs c.args.place) }
