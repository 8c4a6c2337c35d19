use Rattle.std.proofs.Common.{◌≡◌, ◌<◌, Option, length, refl, sym, ap, subst, ◌∙◌}
use Rattle.std.specs.Global.{Box}
use Rattle.code_table.specs.ColumnsView.{ColumnsView}
use Rattle.object_store.specs.Stock.{whole_items}
use Rattle.object_store.specs.StockView.{StockView}
use Rattle.object_store.proofs.StockLemmas.{with_room}
use Rattle.object_store.proofs.stock.Stock.near_len.Goals as goal

pub returns : goal.returns
returns c =
    let p = c.self.inside in
    let some : 0 < p.near.free = subst (λ (v : StockView). 0 < v.at_hand) (sym c.self.view_is) c.requires.room in
    c.len.ensures ∙ with_room p.near p.far (λ (f : Option (Box ColumnsView)). length p.near.items ≡ length (whole_items p.near.items f)) c.self.invariant some refl
    ∙ ap (λ (v : StockView). length v.items) c.self.view_is
