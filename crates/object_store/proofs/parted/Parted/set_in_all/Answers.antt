use Rattle.std.proofs.Common.{◌<◌, ◌∙◌, length, sym, ap, subst}
use Rattle.code_table.specs.Cells.{CodedStore, cell_at, with_cell_at, with_place_at}
use Rattle.code_table.specs.ColumnsView.{ColumnsView}
use Rattle.object_store.proofs.parted.Parted.set_in_all.Goals as goal

pub set_place-requires : goal.set_place-requires
set_place-requires c = record { within = subst (λ (s : CodedStore). c.args.at < length s) (sym c.in_ok-columns.ensures.items) c.requires.within }

pub returns-clause-items : goal.returns-clause-items
returns-clause-items c =
    ap (λ (v : ColumnsView). v.items) c.drop.view_is ∙ c.of.ensures.items ∙ c.set_place.ensures.items ∙ ap (λ (s : CodedStore). with_cell_at s c.args.at (with_place_at c.args.index c.args.to (cell_at s c.args.at))) c.in_ok-columns.ensures.items
