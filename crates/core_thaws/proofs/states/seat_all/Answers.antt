use Rattle.std.proofs.Common.{◌≡◌, ◌∙◌, ◌++◌, ◌∷◌, [], List, length, sym, ap, subst, arith}
use Rattle.std.proofs.lemmas.List.{append-nil, append_assoc}
use Rattle.future_table.specs.Values.{values_of}
use Rattle.step_reads.specs.Values.{AreClosedValues}
use Rattle.core_seats.specs.Seats.{names_in}
use Rattle.core_state.proofs.ListLemmas.{no_items}
use Rattle.core_thaws.specs.Seating.{AreSeated}
use Rattle.core_thaws.proofs.SeatLemmas.{Entry, closed_one, name_new, rests_next, seated_more, values_closed}
use Rattle.core_thaws.proofs.states.seat_all.Goals as goal

pub loop-name-init : goal.loop-name-init
loop-name-init c = (c.requires.none, c.into_iter-name-iterator.ensures.into_iter_gives.0)

pub seat-requires-clause-closed : goal.seat-requires-clause-closed
seat-requires-clause-closed c =
    let r = c.requires.may in
    let all = c.loop-name.invariant in
    let done = c.loop-name.yielded in
    let e : Entry = (c.in-Some.name, c.in-Some.actor) in
    let whole : done ++ e ∷ c.next.new.self.rest.items ≡ c.args.activities.items = ap (λ items. done ++ items) (sym c.in-Some.ensures.steps.0) ∙ all.1 in
    closed_one r.0 r.1 c.args.state.now.left c.args.activities.items c.args.state.now.futures r.2 done c.next.new.self.rest.items e whole

pub seat-requires-clause-values : goal.seat-requires-clause-values
seat-requires-clause-values c =
    let r = c.requires.may in
    subst (λ fs. AreClosedValues (values_of fs)) (sym c.loop-name.invariant.0.futures) (values_closed r.0 r.1 c.args.state.now.left c.args.activities.items c.args.state.now.futures r.2)

pub seat-requires-clause-kept : goal.seat-requires-clause-kept
seat-requires-clause-kept c = c.loop-name.invariant.0.kept

pub seat-requires-clause-new : goal.seat-requires-clause-new
seat-requires-clause-new c =
    let r = c.requires.may in
    let all = c.loop-name.invariant in
    let done = c.loop-name.yielded in
    let e : Entry = (c.in-Some.name, c.in-Some.actor) in
    let whole : done ++ e ∷ c.next.new.self.rest.items ≡ c.args.activities.items = ap (λ items. done ++ items) (sym c.in-Some.ensures.steps.0) ∙ all.1 in
    name_new r.0 r.1 c.args.state.now.left c.args.activities.items c.args.state.now.futures r.2 done c.next.new.self.rest.items e whole (names_in c.loop-name.state.seats) all.0.names

pub seat-requires-clause-rests : goal.seat-requires-clause-rests
seat-requires-clause-rests c = rests_next c.args.state.now.futures c.args.state.now.left (length c.args.activities.items) c.loop-name.yielded c.loop-name.state c.loop-name.invariant.0

pub loop-name-preserved : goal.loop-name-preserved
loop-name-preserved c =
    let all = c.loop-name.invariant in
    let done = c.loop-name.yielded in
    let e : Entry = (c.in-Some.name, c.in-Some.actor) in (
      seated_more c.args.state.now.futures c.args.state.now.left (length c.args.activities.items) done e c.loop-name.state c.seat.new.state all.0 c.in_ok-seat.ensures.seated,
      append_assoc done (e ∷ []) c.next.new.self.rest.items ∙ ap (λ items. done ++ items) (sym c.in-Some.ensures.steps.0) ∙ all.1,
    )

pub returns : goal.returns
returns c =
    let all = c.loop-name.invariant in
    let done = c.loop-name.yielded in
    let none : c.loop-name.name-iterator.rest.items ≡ [] = no_items c.loop-name.name-iterator.rest.items (omega (arith, c.loop-name.name-iterator.rest.ok, c.in-None.ensures.steps.0)) in
    let whole : done ≡ c.args.activities.items = sym (append-nil done) ∙ ap (λ items. done ++ items) (sym none) ∙ all.1 in
    record { seated = subst (λ (d : List Entry). AreSeated c.args.state.now.futures c.args.state.now.left (length c.args.activities.items) d c.loop-name.state) whole all.0 }
