use Rattle.std.proofs.Common.{◌≡◌, ◌<◌, ◌≤◌, ℕ, Option, length, ap, subst, ◌∙◌, arith}
use Rattle.std.specs.Global.{Box}
use Rattle.code_table.specs.Cells.{CodedStore, cell_at, with_cell_at, with_place_at}
use Rattle.code_table.specs.ColumnsView.{ColumnsView}
use Rattle.object_store.specs.Stock.{IsApart, whole_free, whole_items}
use Rattle.object_store.specs.StockView.{StockView}
use Rattle.object_store.proofs.StockLemmas.{with_near}
use Rattle.object_store.proofs.stock.Stock.set_place.Goals as goal

abbrev set_in : CodedStore → ℕ → ℕ → ℕ → CodedStore
set_in s at index to = with_cell_at s at (with_place_at index to (cell_at s at))

pub invariant_of-self : goal.invariant_of-self
invariant_of-self c =
    let p = c.self.inside in
    let some : 0 < length p.near.items = omega (arith, c.if-at-len.true, c.len.ensures) in
    with_near p.near p.far (λ (f : Option (Box ColumnsView)). IsApart c.set_place.new.self f) c.self.invariant some tt

pub returns-then-at-len-clause-items : goal.returns-then-at-len-clause-items
returns-then-at-len-clause-items c =
    let p = c.self.inside in
    let new = c.set_place.new.self in
    let some : 0 < length p.near.items = omega (arith, c.if-at-len.true, c.len.ensures) in
    with_near p.near p.far (λ (f : Option (Box ColumnsView)). whole_items new.items f ≡ set_in (whole_items p.near.items f) c.args.at c.args.index c.args.to) c.self.invariant some c.set_place.ensures.items
    ∙ ap (λ (v : StockView). set_in v.items c.args.at c.args.index c.args.to) c.self.view_is

pub returns-then-at-len-clause-free : goal.returns-then-at-len-clause-free
returns-then-at-len-clause-free c =
    let p = c.self.inside in
    let new = c.set_place.new.self in
    let some : 0 < length p.near.items = omega (arith, c.if-at-len.true, c.len.ensures) in
    subst (λ (v : StockView). v.free ≤ whole_free new.free p.far) c.self.view_is
    (with_near p.near p.far (λ (f : Option (Box ColumnsView)). whole_free p.near.free f ≤ whole_free new.free f) c.self.invariant some (omega (arith, c.set_place.ensures.free)))
