use Rattle.std.proofs.Common.{◌≡◌, ◌+◌, ◌++◌, length, sym, ap, ◌∙◌, arith}
use Rattle.code_table.specs.Cells.{CodedStore, cell_at, with_cell_at, with_place_at}
use Rattle.code_table.specs.ColumnsView.{ColumnsView}
use Rattle.object_store.specs.Parts.{parts_cells}
use Rattle.object_store.proofs.PartLemmas.{set_before, set_behind, whole_length, with_length}
use Rattle.object_store.proofs.parted.Parted.set_place.Goals as goal

pub set_place-requires : goal.set_place-requires
set_place-requires c =
    let p = c.self.inside in
    let size : length (parts_cells p.parts.items ++ p.columns.items) ≡ p.first + length p.columns.items = whole_length (parts_cells p.parts.items) p.columns.items p.first c.self.invariant.first in
    let whole = ap (λ (v : ColumnsView). length v.items) c.self.view_is in
    record { within = omega (arith, size, whole, c.requires.within, c.if-at-self.true) }

pub returns-then-at-self-clause-items : goal.returns-then-at-self-clause-items
returns-then-at-self-clause-items c =
    let p = c.self.inside in
    let n = c.args.at in
    ap (λ (s : CodedStore). parts_cells p.parts.items ++ s) c.set_place.ensures.items
    ∙ set_behind (parts_cells p.parts.items) p.columns.items p.first n c.args.index c.args.to c.self.invariant.first c.if-at-self.true
    ∙ ap (λ (v : ColumnsView). with_cell_at v.items n (with_place_at c.args.index c.args.to (cell_at v.items n))) c.self.view_is

pub set_in-requires : goal.set_in-requires
set_in-requires c = record { placed = c.self.invariant.placed; within = omega (arith, c.if-at-self.false, c.self.invariant.first) }

pub invariant_of-self-then-set_in : goal.invariant_of-self-then-set_in
invariant_of-self-then-set_in c =
    let s = parts_cells c.self.inside.parts.items in
    let size = ap (λ (t : CodedStore). length t) c.if-set_in.ensures.set ∙ with_length s c.args.at (with_place_at c.args.index c.args.to (cell_at s c.args.at)) in
    record { placed = c.set_in.ensures.placed; first = c.self.invariant.first ∙ sym size; bound = c.self.invariant.bound }

pub returns-then-set_in-clause-items : goal.returns-then-set_in-clause-items
returns-then-set_in-clause-items c =
    let p = c.self.inside in
    let n = c.args.at in
    ap (λ (s : CodedStore). s ++ p.columns.items) c.if-set_in.ensures.set
    ∙ set_before (parts_cells p.parts.items) p.columns.items p.first n c.args.index c.args.to c.self.invariant.first c.if-at-self.false
    ∙ ap (λ (v : ColumnsView). with_cell_at v.items n (with_place_at c.args.index c.args.to (cell_at v.items n))) c.self.view_is
