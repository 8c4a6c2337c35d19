use Rattle.std.proofs.Common.{◌∙◌, refl}
use Rattle.race_desks.proofs.TurnLemmas.{turn_further, turn_still}
use Rattle.race_desks.proofs.desk.Desk.deliver_owed.Goals as goal

pub loop-init : goal.loop-init
loop-init g c = (λ n. turn_still g.P.UpdatePolicy.answer g.P.UpdatePolicy.asked n c.args.self.now c.requires.orderly, λ n. refl)

pub deliver_next-requires : goal.deliver_next-requires
deliver_next-requires g c = record { orderly = (c.loop.invariant.0 0).keeps.orderly }

pub loop-preserved : goal.loop-preserved
loop-preserved g c =
    let before = c.loop.invariant in
    let now = c.deliver_next.ensures in (
      λ n. turn_further g.P.UpdatePolicy.answer g.P.UpdatePolicy.asked n c.args.self.now c.loop.self c.deliver_next.new.self (before.0 n) (now.turn n),
      λ n. now.rows n ∙ before.1 n,
    )

pub returns-then-not-deliver_next-clause-turn : goal.returns-then-not-deliver_next-clause-turn
returns-then-not-deliver_next-clause-turn g c n =
    turn_further g.P.UpdatePolicy.answer g.P.UpdatePolicy.asked n c.args.self.now c.loop.self c.deliver_next.new.self (c.loop.invariant.0 n) (c.deliver_next.ensures.turn n)
