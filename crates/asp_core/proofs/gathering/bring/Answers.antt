use Rattle.std.proofs.Common.{◌∙◌, [], ap, slice_get}
use Rattle.core_seats.specs.Seats.{Out, names_in, seat_at, seats_in}
use Rattle.core_state.proofs.ListLemmas.{got_other}
use Rattle.asp_core.proofs.EndOfRunLemmas.{brought_in}
use Rattle.asp_core.proofs.gathering.bring.Goals as goal

pub returns-in_err-push-clause-others : goal.returns-in_err-push-clause-others
returns-in_err-push-clause-others c = λ j apart. ap (λ xs. slice_get xs j) c.in-Some.ensures.left ∙ got_other (seats_in c.args.seats.now) c.args.number j (Out []) apart

pub returns-in_ok-push-clause-others : goal.returns-in_ok-push-clause-others
returns-in_ok-push-clause-others c = λ j apart. ap (λ xs. slice_get xs j) c.in-Some.ensures.left ∙ got_other (seats_in c.args.seats.now) c.args.number j (Out []) apart

pub returns-in_ok-push-clause-brought : goal.returns-in_ok-push-clause-brought
returns-in_ok-push-clause-brought c =
    brought_in (names_in c.args.seats.now) c.args.number (seat_at c.args.seats.now c.args.number) c.in-Some.actor c.name.result.now c.in_ok-name.name c.args.activities.now.items c.push.new.self.items
    c.in-Some.ensures.taken c.name.ensures.name c.in_ok-name.ensures.name c.in_ok-push.ensures.items
