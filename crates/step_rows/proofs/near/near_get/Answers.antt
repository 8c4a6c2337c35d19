use Rattle.std.proofs.Common.{ℕ, List, [], ◌∷◌, refl, ◌∙◌}
use Rattle.asp_model.specs.Term.{Get}
use Rattle.asp_model.specs.Contraction as contraction
use Rattle.code_table.specs.declared.code.Node.{Node}
use Rattle.code_table.specs.Cells.{coded}
use Rattle.code_table.specs.Shapes.{store_of}
use Rattle.step_rows.proofs.ReadLemmas.{get_reads, one_row}
use Rattle.step_rows.proofs.near.near_get.Goals as goal

pub returns-in-Ok : goal.returns-in-Ok
returns-in-Ok c =
    let k : List Node = c.args.code.now in
    let s = c.args.store.now.cells in
    let l = c.args.label.now.label.text in
    let i : ℕ = c.args.at in
    record {
      row = one_row k s (Get l) (i ∷ []) i (coded c.in-Some.cell) (contraction.get_row (store_of k s) l) refl c.in-Some.ensures.cell (get_reads (store_of k s) l i)
          ∙ c.in-Ok.ensures.row s;
    }
