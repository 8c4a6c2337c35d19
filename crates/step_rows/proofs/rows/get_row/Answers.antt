use Rattle.std.proofs.Common.{◌≡◌, List, IfOk, sym, subst}
use Rattle.asp_model.specs.Term.{Get}
use Rattle.asp_model.specs.Contraction.{Contraction}
use Rattle.asp_model.specs.Contraction as contraction
use Rattle.code_table.specs.declared.code.Node.{Node}
use Rattle.code_table.specs.Cells.{coded}
use Rattle.code_table.specs.Shapes.{store_of}
use Rattle.step_rows.specs.Decisions.{decided}
use Rattle.step_rows.proofs.ReadLemmas.{get_reads, one_row}
use Rattle.step_rows.proofs.rows.get_row.Goals as goal

pub returns : goal.returns
returns c =
    let k : List Node = c.args.code.now in
    let s = c.args.store.now.cells in
    let l = c.args.label.now.label.text in
    let x = c.in-Some.x in
    record {
      row = subst (λ (e : Contraction). IfOk c.get.result (λ d. e ≡ decided k s d))
          (sym (one_row k s (Get l) c.args.operands.now x.at (coded x.cell) (contraction.get_row (store_of k s) l) c.in-Some.ensures.one c.in-Some.ensures.cell (get_reads (store_of k s) l x.at)))
          (c.get.ensures.row s);
    }
