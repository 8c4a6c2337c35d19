use Rattle.std.proofs.Common.{◌∙◌}
use Rattle.asp_model.specs.Term.{Member}
use Rattle.asp_model.specs.Store.{Store}
use Rattle.asp_model.specs.Contraction as contraction
use Rattle.code_table.specs.Cells.{coded}
use Rattle.code_table.specs.Shapes.{cell_of, store_of}
use Rattle.step_rows.proofs.ReadLemmas.{member_reads, two_row}
use Rattle.step_rows.proofs.GroupLemmas.{chooses}
use Rattle.step_rows.proofs.groups.member_row.Goals as goal

pub returns : goal.returns
returns c = record {
  row = λ k.
      let s = c.args.store.now.cells in
      let S : Store = store_of k s in
      let i = c.in-Some.at in
      let j = c.in-Some.other in
      let x = coded c.in-Some-look.cell in
      let y = coded c.in-Some-look-2.cell in
      two_row k s Member c.args.operands.now i j x y (contraction.member_row S) c.in-Some.ensures.two c.in-Some-look.ensures.cell c.in-Some-look-2.ensures.cell (member_reads S i j)
      ∙ chooses S i j (cell_of k x) (cell_of k y) c.group_of-group.result c.sight_of-number.result (c.group_of-group.ensures.seen k) (c.sight_of-number.ensures.seen k)
      ∙ c.member_at.ensures.row k s;
}
