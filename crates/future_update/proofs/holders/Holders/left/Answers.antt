use Rattle.std.proofs.Common.{length, ap, arith}
use Rattle.future_update.specs.Holders.{HoldersView, undelivered}
use Rattle.future_update.proofs.HomeLemmas.{left_so}
use Rattle.future_update.proofs.holders.Holders.left.Goals as goal

pub returns : goal.returns
returns c =
    let r = c.self.inside.records in
    let left = ap (λ (v : HoldersView). length (undelivered v.holders)) c.self.view_is in
    record { left = omega (arith, left, left_so r c.self.invariant.records, ap length c.order-delivered.ensures.order, c.len-edges.ensures.len) }
