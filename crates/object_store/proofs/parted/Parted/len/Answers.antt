use Rattle.std.proofs.Common.{◌≡◌, ◌+◌, ◌++◌, length, ap, arith}
use Rattle.code_table.specs.ColumnsView.{ColumnsView}
use Rattle.object_store.specs.Parts.{parts_cells}
use Rattle.object_store.proofs.PartLemmas.{whole_length}
use Rattle.object_store.proofs.parted.Parted.len.Goals as goal

pub overflow_add-result : goal.overflow_add-result
overflow_add-result c = omega (arith, c.self.invariant.bound, c.room-room.ensures.bound, c.len.ensures)

pub returns : goal.returns
returns c =
    let p = c.self.inside in
    let size : length (parts_cells p.parts.items ++ p.columns.items) ≡ p.first + length p.columns.items = whole_length (parts_cells p.parts.items) p.columns.items p.first c.self.invariant.first in
    let whole = ap (λ (v : ColumnsView). length v.items) c.self.view_is in
    omega (arith, size, whole, c.len.ensures)
