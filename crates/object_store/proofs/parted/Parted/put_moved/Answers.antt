use Rattle.std.proofs.Common.{◌≡◌, ◌+◌, ◌++◌, length, sym, ap, subst, ◌∙◌, arith}
use Rattle.code_table.specs.Cells.{CodedCell, CodedStore, cell_at, coded, moved_coded, with_cell_at}
use Rattle.code_table.specs.ColumnsView.{ColumnsView}
use Rattle.code_table.specs.Moves.{move_of}
use Rattle.std.proofs.lemmas.Bool.{OnTrue_at}
use Rattle.code_table.proofs.ColumnLemmas.{on_error}
use Rattle.object_store.specs.Exchanges.{Exchanges}
use Rattle.object_store.specs.Parts.{parts_cells}
use Rattle.object_store.proofs.PartLemmas.{cell_before, cell_behind, whole_length, with_before, with_behind, with_length}
use Rattle.object_store.proofs.parted.Parted.put_moved.Goals as goal

pub put_in-requires : goal.put_in-requires
put_in-requires c =
    let p = c.self.inside in
    let size : length (parts_cells p.parts.items ++ p.columns.items) ≡ p.first + length p.columns.items = whole_length (parts_cells p.parts.items) p.columns.items p.first c.self.invariant.first in
    let whole = ap (λ (v : ColumnsView). length v.items) c.self.view_is in
    record { within = omega (arith, size, whole, c.requires.within, c.if-at-self.true) }

pub returns-in_err-put_in-clause-err : goal.returns-in_err-put_in-clause-err
returns-in_err-put_in-clause-err c =
    on_error c.from_residual.result
    (ap (λ (s : CodedStore). parts_cells c.self.inside.parts.items ++ s) c.in_err-put_in.ensures.err ∙ ap (λ (v : ColumnsView). v.items) c.self.view_is)

pub returns-then-at-self-clause-items : goal.returns-then-at-self-clause-items
returns-then-at-self-clause-items c =
    let p = c.self.inside in
    let n = c.args.at in
    let x : CodedCell = moved_coded (move_of c.args.moves.now) (coded c.args.cell) in
    ap (λ (s : CodedStore). parts_cells p.parts.items ++ s) c.in_ok-put_in.ensures.items
    ∙ sym (with_behind (parts_cells p.parts.items) p.columns.items p.first n x c.self.invariant.first c.if-at-self.true) ∙ ap (λ (v : ColumnsView). with_cell_at v.items n x) c.self.view_is

pub returns-then-at-self-clause-noted : goal.returns-then-at-self-clause-noted
returns-then-at-self-clause-noted c =
    let p = c.self.inside in
    let n = c.args.at in
    subst (λ (y : CodedCell). Exchanges y (coded c.args.cell) n c.args.finder.now c.put_in.new.finder)
    (sym (cell_behind (parts_cells p.parts.items) p.columns.items p.first n c.self.invariant.first c.if-at-self.true) ∙ ap (λ (v : ColumnsView). cell_at v.items n) c.self.view_is)
    c.in_ok-put_in.ensures.noted

pub put_moved_in-requires : goal.put_moved_in-requires
put_moved_in-requires c = record { placed = c.self.invariant.placed; within = omega (arith, c.if-at-self.false, c.self.invariant.first) }

pub invariant_of-self-in_err-put_moved_in : goal.invariant_of-self-in_err-put_moved_in
invariant_of-self-in_err-put_moved_in c = record {
  placed = c.put_moved_in.ensures.placed;
  first = c.self.invariant.first ∙ sym (ap (λ (s : CodedStore). length s) c.in_err-put_moved_in.ensures.err);
  bound = c.self.invariant.bound;
}

pub returns-in_err-put_moved_in-clause-err : goal.returns-in_err-put_moved_in-clause-err
returns-in_err-put_moved_in-clause-err c =
    on_error c.from_residual-in_err-put_moved_in.result
    (ap (λ (s : CodedStore). s ++ c.self.inside.columns.items) c.in_err-put_moved_in.ensures.err ∙ ap (λ (v : ColumnsView). v.items) c.self.view_is)

pub invariant_of-self-then-branch : goal.invariant_of-self-then-branch
invariant_of-self-then-branch c =
    let t : CodedStore = parts_cells c.self.inside.parts.items in
    let x : CodedCell = moved_coded (move_of c.args.moves.now) (coded c.args.cell) in
    let put : parts_cells c.put_moved_in.new.parts.items ≡ with_cell_at t c.args.at x = OnTrue_at c.if-branch.true c.in_ok-put_moved_in.ensures.items in
    let size = ap (λ (s : CodedStore). length s) put ∙ with_length t c.args.at x in
    record { placed = c.put_moved_in.ensures.placed; first = c.self.invariant.first ∙ sym size; bound = c.self.invariant.bound }

pub returns-then-branch-clause-items : goal.returns-then-branch-clause-items
returns-then-branch-clause-items c =
    let p = c.self.inside in
    let n = c.args.at in
    let t : CodedStore = parts_cells p.parts.items in
    let x : CodedCell = moved_coded (move_of c.args.moves.now) (coded c.args.cell) in
    let put : parts_cells c.put_moved_in.new.parts.items ≡ with_cell_at t n x = OnTrue_at c.if-branch.true c.in_ok-put_moved_in.ensures.items in
    ap (λ (s : CodedStore). s ++ p.columns.items) put ∙ sym (with_before t p.columns.items p.first n x c.self.invariant.first c.if-at-self.false) ∙ ap (λ (v : ColumnsView). with_cell_at v.items n x) c.self.view_is

pub returns-then-branch-clause-noted : goal.returns-then-branch-clause-noted
returns-then-branch-clause-noted c =
    let p = c.self.inside in
    let n = c.args.at in
    let t : CodedStore = parts_cells p.parts.items in
    let noted : Exchanges (cell_at t n) (coded c.args.cell) n c.args.finder.now c.put_moved_in.new.finder = OnTrue_at c.if-branch.true c.in_ok-put_moved_in.ensures.noted in
    subst (λ (y : CodedCell). Exchanges y (coded c.args.cell) n c.args.finder.now c.put_moved_in.new.finder)
    (sym (cell_before t p.columns.items p.first n c.self.invariant.first c.if-at-self.false) ∙ ap (λ (v : ColumnsView). cell_at v.items n) c.self.view_is) noted
