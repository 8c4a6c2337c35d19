use Rattle.std.proofs.Common.{ap, ◌∙◌}
use Rattle.object_store.specs.StockView.{StockView}
use Rattle.object_store.proofs.StockLemmas.{left_apart}
use Rattle.object_store.proofs.stock.Stock.attach.Goals as goal

pub invariant_of-self : goal.invariant_of-self
invariant_of-self c =
    let p = c.self.inside in
    let items = ap (λ (v : StockView). v.items) c.self.view_is ∙ c.in_ok-far.ensures.none in
    let room = ap (λ (v : StockView). v.at_hand) c.self.view_is ∙ c.in_ok-far.ensures.nothing in
    left_apart p.near p.far c.self.invariant items room
