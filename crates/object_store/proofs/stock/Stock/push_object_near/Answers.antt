use Rattle.std.proofs.Common.{◌≡◌, ◌<◌, ◌≤◌, ◌-◌, ◌++◌, ◌∷◌, [], Option, sym, subst}
use Rattle.std.specs.Prelude.{OnErr, OnOk}
use Rattle.std.specs.Global.{Box}
use Rattle.code_table.specs.Cells.{CodedCell, Object}
use Rattle.code_table.specs.ColumnsView.{ColumnsView}
use Rattle.object_store.specs.Stock.{IsApart, whole_free, whole_items}
use Rattle.object_store.specs.StockView.{StockView}
use Rattle.object_store.proofs.StockLemmas.{with_room}
use Rattle.object_store.proofs.stock.Stock.push_object_near.Goals as goal

pub invariant_of-self : goal.invariant_of-self
invariant_of-self c =
    let p = c.self.inside in
    let some : 0 < p.near.free = subst (λ (v : StockView). 0 < v.at_hand) (sym c.self.view_is) c.requires.room in
    with_room p.near p.far (λ (f : Option (Box ColumnsView)). IsApart c.push_object.new.self f) c.self.invariant some tt

pub returns-clause-items : goal.returns-clause-items
returns-clause-items c =
    let p = c.self.inside in
    let r = c.push_object.result in
    let new = c.push_object.new.self in
    let x : CodedCell = Object c.args.class c.args.places.now in
    let some : 0 < p.near.free = subst (λ (v : StockView). 0 < v.at_hand) (sym c.self.view_is) c.requires.room in
    subst (λ (v : StockView). OnOk r (whole_items new.items p.far ≡ v.items ++ x ∷ [])) c.self.view_is
    (with_room p.near p.far (λ (f : Option (Box ColumnsView)). OnOk r (whole_items new.items f ≡ whole_items p.near.items f ++ x ∷ [])) c.self.invariant some c.push_object.ensures.items)

pub returns-clause-err : goal.returns-clause-err
returns-clause-err c =
    let p = c.self.inside in
    let r = c.push_object.result in
    let new = c.push_object.new.self in
    let some : 0 < p.near.free = subst (λ (v : StockView). 0 < v.at_hand) (sym c.self.view_is) c.requires.room in
    subst (λ (v : StockView). OnErr r (whole_items new.items p.far ≡ v.items)) c.self.view_is
    (with_room p.near p.far (λ (f : Option (Box ColumnsView)). OnErr r (whole_items new.items f ≡ whole_items p.near.items f)) c.self.invariant some c.push_object.ensures.err)

pub returns-clause-free : goal.returns-clause-free
returns-clause-free c =
    let p = c.self.inside in
    let new = c.push_object.new.self in
    let some : 0 < p.near.free = subst (λ (v : StockView). 0 < v.at_hand) (sym c.self.view_is) c.requires.room in
    subst (λ (v : StockView). v.free - 1 ≤ whole_free new.free p.far) c.self.view_is
    (with_room p.near p.far (λ (f : Option (Box ColumnsView)). whole_free p.near.free f - 1 ≤ whole_free new.free f) c.self.invariant some c.push_object.ensures.free)

pub returns-clause-kept : goal.returns-clause-kept
returns-clause-kept c =
    let p = c.self.inside in
    let r = c.push_object.result in
    let new = c.push_object.new.self in
    let some : 0 < p.near.free = subst (λ (v : StockView). 0 < v.at_hand) (sym c.self.view_is) c.requires.room in
    subst (λ (v : StockView). OnErr r (v.free ≤ whole_free new.free p.far)) c.self.view_is
    (with_room p.near p.far (λ (f : Option (Box ColumnsView)). OnErr r (whole_free p.near.free f ≤ whole_free new.free f)) c.self.invariant some c.push_object.ensures.kept)
