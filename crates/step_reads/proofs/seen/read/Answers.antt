use Rattle.std.proofs.Common.{◌≡◌, ◌≤◌, List, length, sym, subst, ◌∙◌}
use Rattle.code_table.specs.declared.code.Node.{Node}
use Rattle.code_table.specs.Cells.{CodedStore}
use Rattle.code_table.specs.Shapes.{store_of}
use Rattle.code_table.proofs.CodedLemmas.{length-store_of}
use Rattle.step_rows.proofs.ReadLemmas.{cell_seen}
use Rattle.step_reads.proofs.SightLemmas.{past_end}
use Rattle.step_reads.proofs.seen.read.Goals as goal

pub returns-then-place-len : goal.returns-then-place-len
returns-then-place-len c =
    let k : List Node = c.args.code.now in
    let s : CodedStore = c.args.store.now.cells in
    let size : c.len.result ≡ length (store_of k s) = c.len.ensures ∙ sym (length-store_of k s) in
    let over : length (store_of k s) ≤ c.args.place = subst (λ n. n ≤ c.args.place) size c.if-place-len.true in
    record { cell = sym (past_end (store_of k s) c.args.place over) }

pub returns : goal.returns
returns c = record {
  cell = c.see.ensures.cell ∙ sym (cell_seen c.args.code.now c.args.store.now.cells c.args.place _ c.cell.ensures.cell);
}
