use Rattle.std.proofs.Common.{◌≡◌, ℕ, List, sym, ap, ◌∙◌}
use Rattle.asp_model.specs.Term.{Put}
use Rattle.asp_model.specs.Contraction.{contract}
use Rattle.asp_model.specs.Contraction as contraction
use Rattle.code_table.specs.declared.code.Node.{Node}
use Rattle.code_table.specs.Cells.{coded}
use Rattle.code_table.specs.Shapes.{cell_of, store_of}
use Rattle.step_rows.specs.Decisions.{read, value_redex}
use Rattle.step_rows.proofs.ReadLemmas.{put_reads, cell_seen}
use Rattle.step_rows.proofs.near.near_put_row.Goals as goal

pub returns-in-Ok : goal.returns-in-Ok
returns-in-Ok c =
    let k : List Node = c.args.code.now in
    let s = c.args.store.now.cells in
    let l = c.args.label.now.label.text in
    let i : ℕ = c.in-Some.at in
    let j : ℕ = c.in-Some.to in
    let cell = c.in-Some-near.cell in
    let here : contract (store_of k s) (value_redex (Put l) c.args.operands.now) ≡ read i (contraction.put_row (store_of k s) l i j) (cell_of k (coded cell)) =
    ap (λ (ns : List ℕ). contract (store_of k s) (value_redex (Put l) ns)) c.in-Some.ensures.two ∙ put_reads (store_of k s) l i j
    ∙ ap (read i (contraction.put_row (store_of k s) l i j)) (cell_seen k s i (coded cell) c.in-Some-near.ensures.cell) in
    record { row = here ∙ c.in-Ok.ensures.row s (sym c.in-Some-near.ensures.cell) }
