use Rattle.std.proofs.Common.{◌≡◌, List, map, sym, ap, ◌∙◌}
use Rattle.std.specs.Arc.{arc_value}
use Rattle.asp_model.specs.Intent.{labels_served}
use Rattle.asp_model.specs.Store.{CellShape, Store, cell}
use Rattle.step_rows.proofs.ReadLemmas.{cell_seen}
use Rattle.code_table.specs.Cells.{CodedStore, cell_at, coded}
use Rattle.code_table.specs.Shapes.{cell_shape}
use Rattle.object_store.specs.View.{StoreView}
use Rattle.code_table.specs.declared.code.Node.{Node}
use Rattle.serve_rules.specs.Labels.{label_text}
use Rattle.step_activity.specs.declared.actor.Actor.{Actor}
use Rattle.step_activity.specs.Actors.{code_of}
use Rattle.step_activity.proofs.actor.Actor.served_by.Goals as goal

pub returns : goal.returns
returns c = record {
  labels = λ a rs h.
      let x : Actor = c.args.self.now in
      let k : List Node = code_of x in
      let labels = map label_text c.args.labels.now in
      let cells : CodedStore = x.activity.state.store.cells in
      let loc : c.active.result ≡ a.active = c.active.ensures.active a h.activity in
      let held : coded c.cell-active.result ≡ cell_at cells a.active = c.cell-active.ensures.cell ∙ ap (λ (s : StoreView). cell_at s.cells c.active.result) c.store.ensures.store ∙ ap (cell_at cells) loc in
      let code : c.deref.result.now ≡ k = c.deref.ensures ∙ ap arc_value c.code.ensures.code in
      let seen : cell_shape c.deref.result.now c.cell-active.result ≡ cell a.store a.active =
      ap (λ (m : List Node). cell_shape m c.cell-active.result) code ∙ sym (cell_seen k cells a.active (coded c.cell-active.result) held) ∙ ap (λ (s : Store). cell s a.active) h.activity.state.store in
      c.labels_of.ensures.labels ∙ ap (λ (d : CellShape). labels_served labels d) seen;
}
