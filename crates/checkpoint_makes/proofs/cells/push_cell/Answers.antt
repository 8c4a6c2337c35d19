use mir.Val.{SFits}
use Rattle.std.proofs.Common.{◌≡◌, ◌∙◌, to_z, of_z, w64, ap, rules, sym, subst, OnOk}
use Rattle.std.proofs.lemmas.Int.{to_z-of_z}
use Rattle.asp_model.specs.Store.{CellShape, Number}
use Rattle.checkpoint_reading.specs.Cells.{cell_shape}
use Rattle.checkpoint_makes.specs.Later.{IsPushed}
use Rattle.checkpoint_makes.proofs.cells.push_cell.Goals as goal

pub returns-in-Number : goal.returns-in-Number
returns-in-Number c =
    let n = c.in-Number.number in
    let ns = c.args.nodes.now.items in
    let fits : SFits w64 n = search rules in
    let same : to_z w64 (of_z w64 n) ≡ n = to_z-of_z w64 n fits in
    record {
      pushed = subst (λ (d : CellShape). OnOk c.push_number.result (IsPushed ns ns c.args.columns.now.items c.push_number.new.columns.items d))
          (ap Number same ∙ ap cell_shape (sym c.in-Number.is)) (c.push_number.ensures.pushed ns);
    }
