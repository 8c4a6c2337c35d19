use Rattle.std.proofs.Common.{◌≡◌, ◌∙◌, ◌∷◌, ◌++◌, [], Some, ap, refl, slice_get, subst, sym}
use Rattle.asp_model.specs.Configuration.{From}
use Rattle.request_queue.specs.Requests.{request_shape}
use Rattle.core_seats.specs.Seats.{In, Out, seat_at, seats_in, with_seat}
use Rattle.core_seats.proofs.SeatLemmas.{set_twice}
use Rattle.step_activity.specs.Actors.{Stands, code_of, log_in}
use Rattle.core_state.specs.declared.state.CoreState.{CoreState}
use Rattle.core_state.proofs.ListLemmas.{name_got}
use Rattle.core_state.proofs.PopulateLemmas.{Receives, request_comes}
use Rattle.core_state.proofs.HandLemmas.{box_there, named, taken_coded, taken_in, taken_out}
use Rattle.core_state.proofs.handing.hand_over.Goals as goal

pub unreachable-requires : goal.unreachable-requires
unreachable-requires c =
    let r = c.requires.receiving in
    let k = r.3.numbered.numbered c.args.to.now r.3.there in
    c.in_default.ensures.found k.0 (ap (λ ns. slice_get ns k.0) r.3.populated.names ∙ sym (name_got r.2.names k.0) ∙ k.1)

pub receive-requires : goal.receive-requires
receive-requires c =
    let r = c.requires.receiving in
    let x = c.args.state.now in
    let a = c.in-Some-take.actor.value in
    record { code = r.3.coded ∙ sym (ap code_of c.as_mut.ensures.value ∙ taken_coded r.0 r.1 x r.2 r.3.populated c.in-Some.number c.args.to.now c.in-Some.ensures.found a (taken_in (seat_at x.seats c.in-Some.number) a c.in-Some-take.ensures.taken)) }

pub returns-in_ok-receive-in-Some-take-clause-populated : goal.returns-in_ok-receive-in-Some-take-clause-populated
returns-in_ok-receive-in-Some-take-clause-populated c = λ h code u r.
    let x = c.args.state.now in
    let k = c.in-Some.number in
    let m = c.args.to.now in
    let a = c.receive.new.self in
    let y : CoreState = record { alloc = x.alloc; seats = c.put-came.new.self; ranks = x.ranks; futures = x.futures; journal = x.journal; left = x.left; bursts = x.bursts } in
    let here : seat_at x.seats k ≡ Some (In c.in-Some-take.actor.value) = taken_in (seat_at x.seats k) c.in-Some-take.actor.value c.in-Some-take.ensures.taken in
    let was = c.as_mut.ensures.value in
    request_comes h code x y u r.populated r.numbered k m (named h code x u r.populated k m c.in-Some.ensures.found) c.args.request (In a)
    (c.put-came.ensures.seats ∙ ap (λ seats. with_seat seats k (In a)) c.in-Some-take.ensures.left ∙ set_twice (seats_in x.seats) k (Out []) (In a))
    (c.put-came.ensures.names ∙ c.take.ensures.names) c.put-came.ensures.kept refl c.in-Some.ensures.known
    (subst (λ o. Receives h code u k m c.args.request o (Some (In a))) (sym here) ((λ b rs stands. c.in_ok-receive-in-Some-take.ensures.stands b rs (subst (λ y. Stands y b rs) (sym was) stands)), c.receive.ensures.code ∙ ap code_of was, c.in_ok-receive-in-Some-take.ensures.log ∙ ap (λ xs. xs ++ From (request_shape c.args.request).sender ∷ []) (ap log_in was)))
    r.coded

pub returns-in_ok-post-in-None-clause-populated : goal.returns-in_ok-post-in-None-clause-populated
returns-in_ok-post-in-None-clause-populated c = λ h code u r.
    let x = c.args.state.now in
    let k = c.in-Some.number in
    let m = c.args.to.now in
    let y : CoreState = record { alloc = x.alloc; seats = c.post.new.self; ranks = x.ranks; futures = x.futures; journal = x.journal; left = x.left; bursts = x.bursts } in
    let b = box_there h code x u r.populated k m c.in-Some.ensures.found (taken_out (seat_at x.seats k) c.in-None.ensures.taken) in
    let same : seats_in c.take.new.self ≡ seats_in x.seats = c.take.ensures.none c.in-None.is in
    let more = Out (b.0 ++ c.args.request ∷ []) in
    request_comes h code x y u r.populated r.numbered k m (named h code x u r.populated k m c.in-Some.ensures.found) c.args.request more
    (c.in_ok-post-in-None.ensures.posted b.0 (ap (λ seats. slice_get seats k) same ∙ b.1) ∙ ap (λ seats. with_seat seats k more) same)
    (c.post.ensures.names ∙ c.take.ensures.names) c.post.ensures.kept refl c.in-Some.ensures.known
    (subst (λ o. Receives h code u k m c.args.request o (Some more)) (sym b.1) refl)
    r.coded

pub returns-in_ok-receive-in-Some-take-clause-number : goal.returns-in_ok-receive-in-Some-take-clause-number
returns-in_ok-receive-in-Some-take-clause-number c = λ h code u r. named h code c.args.state.now u r.populated c.in-Some.number c.args.to.now c.in-Some.ensures.found

pub returns-in_ok-post-in-None-clause-number : goal.returns-in_ok-post-in-None-clause-number
returns-in_ok-post-in-None-clause-number c = λ h code u r. named h code c.args.state.now u r.populated c.in-Some.number c.args.to.now c.in-Some.ensures.found
