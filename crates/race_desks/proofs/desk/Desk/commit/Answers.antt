use Rattle.std.proofs.Common.{arith, ap, refl}
use Rattle.race_desks.specs.LeaseRows.{rounds_of}
use Rattle.race_desks.proofs.RowLemmas.{rounds_at}
use Rattle.race_desks.proofs.TurnLemmas.{cleared}
use Rattle.race_desks.proofs.desk.Desk.commit.Goals as goal

pub overflow_sub-self : goal.overflow_sub-self
overflow_sub-self g c =
    let desk = c.args.self.now in
    let some = rounds_at desk.rows.items c.args.seat (omega (arith, c.requires.seat, desk.rows.ok)) in
    omega (arith, some, ap rounds_of c.requires.row, c.requires.orderly.counted)

pub bring_back-back-requires-clause-reserved : goal.bring_back-back-requires-clause-reserved
bring_back-back-requires-clause-reserved g c = λ s run.
    let desk = c.args.self.now in
    let some = rounds_at desk.rows.items c.args.seat (omega (arith, c.requires.seat, desk.rows.ok)) in
    let all = c.requires.orderly.reserved s run in
    omega (arith, some, ap rounds_of c.requires.row, all)

pub bring_back-back-requires-clause-kept : goal.bring_back-back-requires-clause-kept
bring_back-back-requires-clause-kept g c = c.requires.orderly.kept

pub returns-clause-turn : goal.returns-clause-turn
returns-clause-turn g c =
    let desk = c.args.self.now in
    let b = c.bring_back-back.ensures.back in
    cleared g.P.UpdatePolicy.answer g.P.UpdatePolicy.asked c.args.seat desk _ c.requires.orderly b.later b.code b.kept b.core c.clear.ensures.seats
    c.args.lease.lease.number c.args.lease.lease.burst c.args.lease.rounds c.requires.row c.clear.ensures.rows b.others b.comes
    (omega (arith, c.requires.seat, desk.rows.ok)) refl b.left

pub returns-clause-free : goal.returns-clause-free
returns-clause-free g c = c.clear.ensures.free
