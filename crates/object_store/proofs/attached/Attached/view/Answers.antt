use Rattle.std.proofs.Common.{◌≡◌, ◌<◌, ◌+◌, ◌∙◌, drop, length, map, take, refl, ap, arith}
use Rattle.std.specs.Arc.{arc_value}
use Rattle.code_table.specs.Cells.{CodedStore, cell_at, moved_coded}
use Rattle.code_table.specs.ColumnsView.{ColumnsView}
use Rattle.code_table.specs.Moves.{shift_of}
use Rattle.object_store.specs.AttachedView.{AttachedView}
use Rattle.object_store.proofs.AttachedLemmas.{attached_cell, attached_length}
use Rattle.object_store.proofs.attached.Attached.view.Goals as goal

pub overflow_add-self-inside : goal.overflow_add-self-inside
overflow_add-self-inside c =
    let a = c.self.inside in
    let all : CodedStore = (arc_value a.columns).items in
    let size : length (map (moved_coded (shift_of a.shift)) (take a.count (drop a.from all))) ≡ a.count = attached_length (shift_of a.shift) a.from a.count all c.self.invariant in
    let whole = ap (λ (v : AttachedView). length v.items) c.self.view_is in
    let same = ap (λ (v : ColumnsView). length v.items) c.deref.ensures in
    omega (arith, size, whole, c.requires.within, c.self.invariant, same, c.len-count.ensures, c.len-count.type_inv)

pub view_by-requires : goal.view_by-requires
view_by-requires c =
    let a = c.self.inside in
    let all : CodedStore = (arc_value a.columns).items in
    let size : length (map (moved_coded (shift_of a.shift)) (take a.count (drop a.from all))) ≡ a.count = attached_length (shift_of a.shift) a.from a.count all c.self.invariant in
    let whole = ap (λ (v : AttachedView). length v.items) c.self.view_is in
    let same = ap (λ (v : ColumnsView). length v.items) c.deref-2.ensures in
    record { within = omega (arith, size, whole, c.requires.within, c.self.invariant, same) }

pub returns : goal.returns
returns c =
    let a = c.self.inside in
    let f = shift_of a.shift in
    let all : CodedStore = (arc_value a.columns).items in
    let size : length (map (moved_coded f) (take a.count (drop a.from all))) ≡ a.count = attached_length f a.from a.count all c.self.invariant in
    let whole = ap (λ (v : AttachedView). length v.items) c.self.view_is in
    let lt : c.args.at < a.count = omega (arith, size, whole, c.requires.within) in
    record {
      view = c.view_by.ensures.view ∙ ap (λ (v : ColumnsView). moved_coded f (cell_at v.items (a.from + c.args.at))) c.deref-2.ensures
          ∙ attached_cell f a.from a.count all c.args.at (a.from + c.args.at) refl lt c.self.invariant
          ∙ ap (λ (v : AttachedView). cell_at v.items c.args.at) c.self.view_is;
    }
