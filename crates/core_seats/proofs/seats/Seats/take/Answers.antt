use Rattle.std.proofs.Common.{◌∙◌, ◌+◌, ap, arith, slice_set}
use Rattle.core_seats.specs.Seats.{In, Out, seats_in}
use Rattle.core_seats.proofs.SeatLemmas.{away_fits, kept_same, kept_set, set_there_back}
use Rattle.core_seats.proofs.seats.Seats.take.Goals as goal

pub returns-in-Out-clause-none : goal.returns-in-Out-clause-none
returns-in-Out-clause-none g c = λ _.
    let old = seats_in c.args.self.now in
    let k = c.args.number in
    let came = c.in-Out.came.items in
    c.swap-in-Out.ensures.seats
    ∙ ap (λ ss. slice_set ss k (Out came)) c.swap.ensures.seats
    ∙ set_there_back old k (Out came) (Out c.new.result.items) c.in-Out.ensures.was

pub overflow_add-self : goal.overflow_add-self
overflow_add-self g c = omega (arith, c.swap.ensures.away, away_fits c.args.self.now c.requires.kept)

pub returns-in-In-clause-kept : goal.returns-in-In-clause-kept
returns-in-In-clause-kept g c = kept_set c.args.self.now (record c.swap.new.self { away = c.swap.new.self.away + 1 }) c.args.number (In c.in-In.here.value) (Out c.new.result.items) c.swap.ensures.names c.swap.ensures.seats c.in-In.ensures.was (omega (arith, c.swap.ensures.away)) c.requires.kept

pub returns-in-Out-clause-kept : goal.returns-in-Out-clause-kept
returns-in-Out-clause-kept g c = kept_same c.args.self.now c.swap-in-Out.new.self (c.swap-in-Out.ensures.names ∙ c.swap.ensures.names)
    (c.swap-in-Out.ensures.seats ∙ ap (λ ss. slice_set ss c.args.number (Out c.in-Out.came.items)) c.swap.ensures.seats ∙ set_there_back (seats_in c.args.self.now) c.args.number (Out c.in-Out.came.items) (Out c.new.result.items) c.in-Out.ensures.was)
    (c.swap-in-Out.ensures.away ∙ c.swap.ensures.away) c.requires.kept
