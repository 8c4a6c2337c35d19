use Rattle.std.proofs.Common.{ℕ, ◌<◌, ◌∙◌, sym, subst}
use Rattle.race_desks.proofs.TurnLemmas.{has_none, turn_further}
use Rattle.race_desks.proofs.desk.Desk.turn.Goals as goal

pub returns-then-not-deliver_owed-clause-turn : goal.returns-then-not-deliver_owed-clause-turn
returns-then-not-deliver_owed-clause-turn g c =
    let seat = c.args.seat in
    turn_further g.P.UpdatePolicy.answer g.P.UpdatePolicy.asked seat c.args.self.now c.take_in-number.new.self c.deliver_owed.new.self c.take_in-number.ensures.turn (c.deliver_owed.ensures.turn seat)

pub returns-then-not-deliver_owed-clause-lease : goal.returns-then-not-deliver_owed-clause-lease
returns-then-not-deliver_owed-clause-lease g c =
    let seat = c.args.seat in
    has_none c.deliver_owed.new.self seat c.take_in-number.new.held c.take_in-number.ensures.none (c.deliver_owed.ensures.rows seat ∙ c.take_in-number.ensures.free)

pub returns-then-has_leases-clause-turn : goal.returns-then-has_leases-clause-turn
returns-then-has_leases-clause-turn g c =
    let seat = c.args.seat in
    turn_further g.P.UpdatePolicy.answer g.P.UpdatePolicy.asked seat c.args.self.now c.take_in-number.new.self c.deliver_owed.new.self c.take_in-number.ensures.turn (c.deliver_owed.ensures.turn seat)

pub returns-then-has_leases-clause-lease : goal.returns-then-has_leases-clause-lease
returns-then-has_leases-clause-lease g c =
    let seat = c.args.seat in
    has_none c.deliver_owed.new.self seat c.take_in-number.new.held c.take_in-number.ensures.none (c.deliver_owed.ensures.rows seat ∙ c.take_in-number.ensures.free)

pub lend-requires-clause-orderly : goal.lend-requires-clause-orderly
lend-requires-clause-orderly g c = (c.deliver_owed.ensures.turn c.args.seat).keeps.orderly

pub lend-requires-clause-seat : goal.lend-requires-clause-seat
lend-requires-clause-seat g c =
    let seat = c.args.seat in
    subst (λ (n : ℕ). seat < n) (sym ((c.deliver_owed.ensures.turn seat).keeps.seats ∙ c.take_in-number.ensures.turn.keeps.seats)) c.requires.seat

pub returns-then-is_some-clause-turn : goal.returns-then-is_some-clause-turn
returns-then-is_some-clause-turn g c =
    let seat = c.args.seat in
    let delivered = turn_further g.P.UpdatePolicy.answer g.P.UpdatePolicy.asked seat c.args.self.now c.take_in-number.new.self c.deliver_owed.new.self c.take_in-number.ensures.turn (c.deliver_owed.ensures.turn seat) in
    turn_further g.P.UpdatePolicy.answer g.P.UpdatePolicy.asked seat c.args.self.now c.deliver_owed.new.self c.lend.new.self delivered c.lend.ensures.turn

pub returns-then-is_over-clause-turn : goal.returns-then-is_over-clause-turn
returns-then-is_over-clause-turn g c =
    let seat = c.args.seat in
    let delivered = turn_further g.P.UpdatePolicy.answer g.P.UpdatePolicy.asked seat c.args.self.now c.take_in-number.new.self c.deliver_owed.new.self c.take_in-number.ensures.turn (c.deliver_owed.ensures.turn seat) in
    turn_further g.P.UpdatePolicy.answer g.P.UpdatePolicy.asked seat c.args.self.now c.deliver_owed.new.self c.lend.new.self delivered c.lend.ensures.turn

pub returns-clause-turn : goal.returns-clause-turn
returns-clause-turn g c =
    let seat = c.args.seat in
    let delivered = turn_further g.P.UpdatePolicy.answer g.P.UpdatePolicy.asked seat c.args.self.now c.take_in-number.new.self c.deliver_owed.new.self c.take_in-number.ensures.turn (c.deliver_owed.ensures.turn seat) in
    turn_further g.P.UpdatePolicy.answer g.P.UpdatePolicy.asked seat c.args.self.now c.deliver_owed.new.self c.lend.new.self delivered c.lend.ensures.turn
