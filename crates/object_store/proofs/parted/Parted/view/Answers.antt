use Rattle.std.proofs.Common.{◌≡◌, ◌+◌, ◌++◌, length, sym, ap, ◌∙◌, arith}
use Rattle.code_table.specs.Cells.{cell_at}
use Rattle.code_table.specs.ColumnsView.{ColumnsView}
use Rattle.object_store.specs.Parts.{parts_cells}
use Rattle.object_store.proofs.PartLemmas.{cell_before, cell_behind, whole_length}
use Rattle.object_store.proofs.parted.Parted.view.Goals as goal

pub view_in-requires : goal.view_in-requires
view_in-requires c = record {
  placed = c.self.invariant.placed;
  within = omega (arith, c.if-at-self.true, c.self.invariant.first);
}

pub returns-then-at-self : goal.returns-then-at-self
returns-then-at-self c =
    let p = c.self.inside in
    record {
      view = c.view_in.ensures.view
          ∙ sym (cell_before (parts_cells p.parts.items) p.columns.items p.first c.args.at c.self.invariant.first c.if-at-self.true)
          ∙ ap (λ (v : ColumnsView). cell_at v.items c.args.at) c.self.view_is;
    }

pub view-requires : goal.view-requires
view-requires c =
    let p = c.self.inside in
    let size : length (parts_cells p.parts.items ++ p.columns.items) ≡ p.first + length p.columns.items = whole_length (parts_cells p.parts.items) p.columns.items p.first c.self.invariant.first in
    let whole = ap (λ (v : ColumnsView). length v.items) c.self.view_is in
    record { within = omega (arith, size, whole, c.requires.within, c.if-at-self.false) }

pub returns : goal.returns
returns c =
    let p = c.self.inside in
    record {
      view = c.view.ensures.view
          ∙ sym (cell_behind (parts_cells p.parts.items) p.columns.items p.first c.args.at c.self.invariant.first c.if-at-self.false)
          ∙ ap (λ (v : ColumnsView). cell_at v.items c.args.at) c.self.view_is;
    }
