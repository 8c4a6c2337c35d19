use Rattle.std.proofs.Common.{◌≡◌, ◌+◌, ◌++◌, ◌∷◌, ◌∙◌, [], ap, slice_set}
use Rattle.core_seats.specs.Seats.{Out, seat_at, seats_in}
use Rattle.core_seats.proofs.SeatLemmas.{kept_set, same_box, set_twice}
use Rattle.core_seats.proofs.seats.Seats.post.Goals as goal

pub returns-clause-posted : goal.returns-clause-posted
returns-clause-posted g c = λ rs h.
    let old = seats_in c.args.self.now in
    let k = c.args.number in
    let rest = c.in-Out.rest.items in
    let more : c.push.new.self.items ≡ rs ++ c.args.came ∷ [] = c.in_ok-push-in-Out.ensures.items ∙ ap (λ xs. xs ++ c.args.came ∷ []) (same_box (seat_at c.args.self.now k) rs rest c.in-Out.ensures.was h) in
    c.swap-in-Out.ensures.seats
    ∙ ap (λ ss. slice_set ss k (Out c.push.new.self.items)) c.swap.ensures.seats
    ∙ set_twice old k _ (Out c.push.new.self.items)
    ∙ ap (λ xs. slice_set old k (Out xs)) more

pub returns-in_err-push-in-Out-clause-kept : goal.returns-in_err-push-in-Out-clause-kept
returns-in_err-push-in-Out-clause-kept g c = kept_set c.args.self.now c.swap.new.self c.args.number (Out c.in-Out.rest.items) (Out c.new.result.items) c.swap.ensures.names c.swap.ensures.seats c.in-Out.ensures.was (ap (λ n. n + 1) c.swap.ensures.away) c.requires.kept

pub returns-clause-kept : goal.returns-clause-kept
returns-clause-kept g c =
    let more = Out c.push.new.self.items in
    kept_set c.args.self.now c.swap-in-Out.new.self c.args.number (Out c.in-Out.rest.items) more (c.swap-in-Out.ensures.names ∙ c.swap.ensures.names)
    (c.swap-in-Out.ensures.seats ∙ ap (λ ss. slice_set ss c.args.number more) c.swap.ensures.seats ∙ set_twice (seats_in c.args.self.now) c.args.number _ more)
    c.in-Out.ensures.was (ap (λ n. n + 1) (c.swap-in-Out.ensures.away ∙ c.swap.ensures.away)) c.requires.kept
