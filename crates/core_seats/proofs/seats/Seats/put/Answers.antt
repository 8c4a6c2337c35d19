use Rattle.std.proofs.Common.{◌-◌, arith}
use Rattle.core_seats.specs.Seats.{In, Out, seats_in}
use Rattle.core_seats.proofs.SeatLemmas.{kept_set, some_out}
use Rattle.core_seats.proofs.seats.Seats.put.Goals as goal

pub overflow_sub-self : goal.overflow_sub-self
overflow_sub-self g c = omega (arith, c.swap.ensures.away, c.requires.kept.counted, some_out (seats_in c.args.self.now) c.args.number c.in-Out.came.items c.in-Out.ensures.was)

pub returns-clause-kept : goal.returns-clause-kept
returns-clause-kept g c =
    let some = some_out (seats_in c.args.self.now) c.args.number c.in-Out.came.items c.in-Out.ensures.was in
    kept_set c.args.self.now (record c.swap.new.self { away = c.swap.new.self.away - 1 }) c.args.number (Out c.in-Out.came.items) (In c.args.here.value) c.swap.ensures.names c.swap.ensures.seats c.in-Out.ensures.was (omega (arith, c.swap.ensures.away, c.requires.kept.counted, some)) c.requires.kept
