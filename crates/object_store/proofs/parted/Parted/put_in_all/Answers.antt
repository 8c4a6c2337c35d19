use Rattle.std.proofs.Common.{◌<◌, ◌∙◌, length, sym, ap, subst}
use Rattle.code_table.specs.Cells.{CodedCell, CodedStore, cell_at, coded, moved_coded, with_cell_at}
use Rattle.code_table.specs.ColumnsView.{ColumnsView}
use Rattle.code_table.specs.Moves.{move_of}
use Rattle.code_table.proofs.ColumnLemmas.{on_error}
use Rattle.object_store.specs.Exchanges.{Exchanges}
use Rattle.object_store.proofs.StoredLemmas.{follows_itself}
use Rattle.object_store.proofs.parted.Parted.put_in_all.Goals as goal

pub returns-in_err-columns-clause-kept : goal.returns-in_err-columns-clause-kept
returns-in_err-columns-clause-kept c = on_error c.from_residual.result (follows_itself c.args.finder.now)

pub put_in-requires : goal.put_in-requires
put_in-requires c = record { within = subst (λ (s : CodedStore). c.args.at < length s) (sym c.in_ok-columns.ensures.items) c.requires.within }

pub returns-clause-items : goal.returns-clause-items
returns-clause-items c =
    let x : CodedCell = moved_coded (move_of c.args.moves.now) (coded c.args.cell) in
    ap (λ (v : ColumnsView). v.items) c.drop.view_is ∙ c.of.ensures.items ∙ c.in_ok-put_in.ensures.items ∙ ap (λ (s : CodedStore). with_cell_at s c.args.at x) c.in_ok-columns.ensures.items

pub returns-clause-noted : goal.returns-clause-noted
returns-clause-noted c =
    subst (λ (s : CodedStore). Exchanges (cell_at s c.args.at) (coded c.args.cell) c.args.at c.args.finder.now c.put_in.new.finder) c.in_ok-columns.ensures.items c.in_ok-put_in.ensures.noted
