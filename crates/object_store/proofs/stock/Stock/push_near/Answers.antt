use Rattle.std.proofs.Common.{◌≡◌, ◌<◌, ◌-◌, ◌++◌, ◌∷◌, [], Option, sym, ap, subst, ◌∙◌}
use Rattle.std.specs.Global.{Box}
use Rattle.code_table.specs.Cells.{CodedCell, bare}
use Rattle.code_table.specs.ColumnsView.{ColumnsView}
use Rattle.object_store.specs.Stock.{IsApart, whole_free, whole_items}
use Rattle.object_store.specs.StockView.{StockView}
use Rattle.object_store.proofs.StockLemmas.{with_room}
use Rattle.object_store.proofs.stock.Stock.push_near.Goals as goal

pub invariant_of-self : goal.invariant_of-self
invariant_of-self c =
    let p = c.self.inside in
    let some : 0 < p.near.free = subst (λ (v : StockView). 0 < v.at_hand) (sym c.self.view_is) c.requires.room in
    with_room p.near p.far (λ (f : Option (Box ColumnsView)). IsApart c.push_reserved.new.self f) c.self.invariant some tt

pub returns-clause-items : goal.returns-clause-items
returns-clause-items c =
    let p = c.self.inside in
    let new = c.push_reserved.new.self in
    let x : CodedCell = bare c.args.cell in
    let some : 0 < p.near.free = subst (λ (v : StockView). 0 < v.at_hand) (sym c.self.view_is) c.requires.room in
    with_room p.near p.far (λ (f : Option (Box ColumnsView)). whole_items new.items f ≡ whole_items p.near.items f ++ x ∷ []) c.self.invariant some c.push_reserved.ensures.items
    ∙ ap (λ (v : StockView). v.items ++ x ∷ []) c.self.view_is

pub returns-clause-free : goal.returns-clause-free
returns-clause-free c =
    let p = c.self.inside in
    let new = c.push_reserved.new.self in
    let some : 0 < p.near.free = subst (λ (v : StockView). 0 < v.at_hand) (sym c.self.view_is) c.requires.room in
    with_room p.near p.far (λ (f : Option (Box ColumnsView)). whole_free new.free f ≡ whole_free p.near.free f - 1) c.self.invariant some c.push_reserved.ensures.free
    ∙ ap (λ (v : StockView). v.free - 1) c.self.view_is
