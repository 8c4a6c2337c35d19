use Rattle.std.proofs.Common.{◌≡◌, ◌<◌, Option, length, ap, subst, ◌∙◌, arith}
use Rattle.std.specs.Global.{Box}
use Rattle.code_table.specs.Cells.{cell_at, coded}
use Rattle.code_table.specs.ColumnsView.{ColumnsView}
use Rattle.object_store.specs.Stock.{whole_items}
use Rattle.object_store.specs.StockView.{StockView}
use Rattle.object_store.proofs.StockLemmas.{with_near}
use Rattle.object_store.proofs.stock.Stock.near_view.Goals as goal

pub returns-then-at-len : goal.returns-then-at-len
returns-then-at-len c =
    let p = c.self.inside in
    let lt : c.args.at < length p.near.items = omega (arith, c.if-at-len.true, c.len.ensures) in
    let some : 0 < length p.near.items = omega (arith, lt) in
    record {
      cell = with_near p.near p.far (λ (f : Option (Box ColumnsView)). coded c.view.result ≡ cell_at (whole_items p.near.items f) c.args.at) c.self.invariant some c.view.ensures.view
          ∙ ap (λ (v : StockView). cell_at v.items c.args.at) c.self.view_is;
      within = subst (λ (v : StockView). c.args.at < length v.items) c.self.view_is
          (with_near p.near p.far (λ (f : Option (Box ColumnsView)). c.args.at < length (whole_items p.near.items f)) c.self.invariant some lt);
    }
