use Rattle.std.proofs.Common.{◌≡◌, ◌∙◌, map, ap, subst}
use Rattle.std.specs.Prelude.{Some}
use Rattle.future_update.specs.Holders.{HoldersView, edge_in}
use Rattle.future_update.proofs.HolderLemmas.{delivered_places}
use Rattle.future_update.proofs.holders.Holders.deliveries.Goals as goal

pub returns : goal.returns
returns c =
    let r = c.self.inside.records in
    record { delivered = ap (map (edge_in c.args.self.now)) c.order.ensures.order ∙ subst (λ (v : HoldersView). map (edge_in v) r.delivered.order.items ≡ map Some v.holders.delivered) c.self.view_is (delivered_places r c.self.invariant.records) }
