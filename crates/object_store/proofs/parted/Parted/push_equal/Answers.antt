use Rattle.std.proofs.Common.{◌≡◌, ◌+◌, ◌-◌, ◌++◌, ◌∷◌, [], length, sym, ap, ◌∙◌, arith}
use Rattle.code_table.specs.Cells.{CodedCell, CodedStore, cell_at, coded, moved_coded}
use Rattle.code_table.specs.ColumnsView.{ColumnsView}
use Rattle.code_table.specs.Moves.{move_of}
use Rattle.code_table.specs.declared.moves.Moves.TheVariants as moves
use Rattle.code_table.proofs.ColumnLemmas.{on_error}
use Rattle.object_store.specs.Parts.{parts_cells}
use Rattle.object_store.proofs.PartLemmas.{cell_before, cell_behind, pushed, stayed, whole_length}
use Rattle.object_store.proofs.parted.Parted.push_equal.Goals as goal

pub push_equal-requires : goal.push_equal-requires
push_equal-requires c =
    let p = c.self.inside in
    let size : length (parts_cells p.parts.items ++ p.columns.items) ≡ p.first + length p.columns.items = whole_length (parts_cells p.parts.items) p.columns.items p.first c.self.invariant.first in
    let whole = ap (λ (v : ColumnsView). length v.items) c.self.view_is in
    let same = ap (λ (s : CodedStore). length s) c.in_ok-reserve.ensures.items in
    record { within = omega (arith, size, whole, same, c.requires.within, c.if-at-self.true) }

pub returns-in_err-push_equal-clause-err : goal.returns-in_err-push_equal-clause-err
returns-in_err-push_equal-clause-err c =
    on_error c.from_residual-in_err-push_equal.result
    (ap (λ (s : CodedStore). parts_cells c.self.inside.parts.items ++ s) c.in_err-push_equal.ensures.err ∙ ap (λ (v : ColumnsView). v.items) c.self.view_is ∙ c.in_ok-reserve.ensures.items)

pub returns-then-at-self-clause-items : goal.returns-then-at-self-clause-items
returns-then-at-self-clause-items c =
    let p = c.self.inside in
    let n = c.args.at in
    let t : CodedStore = parts_cells p.parts.items in
    let s : CodedStore = p.columns.items in
    pushed t s c.push_equal.new.self.items (cell_at s (n - p.first)) c.in_ok-push_equal.ensures.items
    ∙ ap (λ (y : CodedCell). (t ++ s) ++ y ∷ []) (sym (cell_behind t s p.first n c.self.invariant.first c.if-at-self.true))
    ∙ ap (λ (v : ColumnsView). v.items ++ cell_at v.items n ∷ []) c.self.view_is ∙ ap (λ (u : CodedStore). u ++ cell_at u n ∷ []) c.in_ok-reserve.ensures.items

pub view_in-requires : goal.view_in-requires
view_in-requires c = record {
  placed = c.self.invariant.placed;
  within = omega (arith, c.if-at-self.false, c.self.invariant.first);
}

pub returns-in_err-push_moved-clause-err : goal.returns-in_err-push_moved-clause-err
returns-in_err-push_moved-clause-err c =
    on_error c.from_residual-in_err-push_moved.result
    (ap (λ (s : CodedStore). parts_cells c.self.inside.parts.items ++ s) c.in_err-push_moved.ensures.err ∙ ap (λ (v : ColumnsView). v.items) c.self.view_is ∙ c.in_ok-reserve.ensures.items)

pub returns-clause-items : goal.returns-clause-items
returns-clause-items c =
    let p = c.self.inside in
    let n = c.args.at in
    let t : CodedStore = parts_cells p.parts.items in
    let s : CodedStore = p.columns.items in
    let x : CodedCell = coded c.view_in.result in
    pushed t s c.push_moved.new.self.items (moved_coded (move_of moves.Stay) x) c.in_ok-push_moved.ensures.items
    ∙ ap (λ (y : CodedCell). (t ++ s) ++ y ∷ []) (stayed x ∙ c.view_in.ensures.view ∙ sym (cell_before t s p.first n c.self.invariant.first c.if-at-self.false))
    ∙ ap (λ (v : ColumnsView). v.items ++ cell_at v.items n ∷ []) c.self.view_is ∙ ap (λ (u : CodedStore). u ++ cell_at u n ∷ []) c.in_ok-reserve.ensures.items
