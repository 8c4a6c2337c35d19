use Rattle.std.proofs.Common.{◌<◌, length, take, sym, subst, arith}
use Rattle.code_table.specs.Cells.{ArePlain, CodedStore, IsPlain, cell_at}
use Rattle.code_table.proofs.CodedLemmas.{take_cell}
use Rattle.code_table.proofs.PlacesLemmas.{plain_more}
use Rattle.code_table.proofs.columns.Columns.are_plain.Goals as goal

pub loop-at-preserved : goal.loop-at-preserved
loop-at-preserved c =
    let s : CodedStore = c.args.self.now.items in
    let n = c.loop-at.at in
    let lt : n < length s = omega (arith, c.loop-at-test.true, c.len.ensures) in
    let here : IsPlain (cell_at s n) = subst IsPlain c.view.ensures.view (c.is_plain.ensures.plain c.if-not-is_plain.false) in
    record {
      within = omega (arith, lt);
      plain = subst ArePlain (sym (take_cell s n lt)) (plain_more (take n s) (cell_at s n) c.loop-at.invariant.plain here);
    }
