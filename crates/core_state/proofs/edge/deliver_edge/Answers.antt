use Rattle.std.proofs.Common.{◌≡◌, ◌∙◌, ◌++◌, ◌∷◌, [], length, slice_get, refl, sym, ap, arith, subst}
use Rattle.asp_model.specs.History.{Delivered, Edge}
use Rattle.asp_model.specs.Shapes.{entry_shape, future_shape}
use Rattle.def_journals.specs.Deliveries.{holders_from, unpack_each}
use Rattle.core_seats.specs.Seats.{In, Out, is_in, seats_in, with_seat}
use Rattle.core_seats.proofs.SeatLemmas.{length_set, set_twice}
use Rattle.step_activity.specs.Actors.{IsSomebody, Stands, code_of, log_in}
use Rattle.law_core.specs.Ranked.{rank_in}
use Rattle.core_state.specs.declared.state.CoreState.{CoreState}
use Rattle.core_state.proofs.ListLemmas.{got_set}
use Rattle.core_state.proofs.ReceivingLemmas.{Sees, core_then, filled, filled_closed, its_code, its_log, known, named_so, ranked, received, receiver, somebody_there, stands_then, stood, value_closed, value_code, value_there, values_closed}
use Rattle.core_state.proofs.EdgeLemmas.{owed_edge}
use Rattle.core_state.proofs.edge.deliver_edge.Goals as goal

pub name-requires-clause-known : goal.name-requires-clause-known
name-requires-clause-known c = known (owed_edge c.args.state.now c.args.number (future_shape c.args.future.now) c.args.from.now c.requires.passed)

pub take-requires-clause-known : goal.take-requires-clause-known
take-requires-clause-known c = known (owed_edge c.args.state.now c.args.number (future_shape c.args.future.now) c.args.from.now c.requires.passed)

pub unreachable-requires : goal.unreachable-requires
unreachable-requires c = somebody_there (owed_edge c.args.state.now c.args.number (future_shape c.args.future.now) c.args.from.now c.requires.passed) c.in_default.ensures.taken

pub unreachable-requires-in_default-value : goal.unreachable-requires-in_default-value
unreachable-requires-in_default-value c = value_there (owed_edge c.args.state.now c.args.number (future_shape c.args.future.now) c.args.from.now c.requires.passed) (sym c.in_default-value.ensures.value)

pub fill_each-requires-clause-value : goal.fill_each-requires-clause-value
fill_each-requires-clause-value c =
    let z : Sees c.args.state.now c.args.number (future_shape c.args.future.now) c.in-Some.actor.value c.in-Some-value.value.now = record { taken = c.in-Some.ensures.taken; got = c.in-Some-value.ensures.value; held = c.in-Some-value.ensures.held } in
    value_closed (owed_edge c.args.state.now c.args.number (future_shape c.args.future.now) c.args.from.now c.requires.passed) z

pub fill_each-requires-clause-somebody : goal.fill_each-requires-clause-somebody
fill_each-requires-clause-somebody c =
    let q = owed_edge c.args.state.now c.args.number (future_shape c.args.future.now) c.args.from.now c.requires.passed in
    let z : Sees c.args.state.now c.args.number (future_shape c.args.future.now) c.in-Some.actor.value c.in-Some-value.value.now = record { taken = c.in-Some.ensures.taken; got = c.in-Some-value.ensures.value; held = c.in-Some-value.ensures.held } in
    subst IsSomebody (sym c.as_mut-here.ensures.value) (receiver q, received q, stood q z)

pub fill_each-requires-clause-code : goal.fill_each-requires-clause-code
fill_each-requires-clause-code c =
    let z : Sees c.args.state.now c.args.number (future_shape c.args.future.now) c.in-Some.actor.value c.in-Some-value.value.now = record { taken = c.in-Some.ensures.taken; got = c.in-Some-value.ensures.value; held = c.in-Some-value.ensures.held } in
    value_code (owed_edge c.args.state.now c.args.number (future_shape c.args.future.now) c.args.from.now c.requires.passed) z ∙ ap code_of (sym c.as_mut-here.ensures.value)

pub rank_again-requires-clause-closed : goal.rank_again-requires-clause-closed
rank_again-requires-clause-closed c =
    let q = owed_edge c.args.state.now c.args.number (future_shape c.args.future.now) c.args.from.now c.requires.passed in
    let z : Sees c.args.state.now c.args.number (future_shape c.args.future.now) c.in-Some.actor.value c.in-Some-value.value.now = record { taken = c.in-Some.ensures.taken; got = c.in-Some-value.ensures.value; held = c.in-Some-value.ensures.held } in
    filled_closed q c.fill_each.new.self (stands_then q z c.fill_each.new.self (λ p. unpack_each (receiver q).store (holders_from 0 (future_shape c.args.future.now) (receiver q).store) p) refl (c.in_ok-fill_each.ensures.stands (receiver q) (received q) (subst (λ a. Stands a (receiver q) (received q)) (sym c.as_mut-here.ensures.value) (stood q z))))

pub rank_again-requires-clause-values : goal.rank_again-requires-clause-values
rank_again-requires-clause-values c = values_closed (owed_edge c.args.state.now c.args.number (future_shape c.args.future.now) c.args.from.now c.requires.passed)

pub rank_again-requires-clause-ranked : goal.rank_again-requires-clause-ranked
rank_again-requires-clause-ranked c =
    let q = owed_edge c.args.state.now c.args.number (future_shape c.args.future.now) c.args.from.now c.requires.passed in
    (rank_in q.s.configuration q.r.name, ranked q)

pub put-came-requires-clause-out : goal.put-came-requires-clause-out
put-came-requires-clause-out c =
    let k = c.args.number in
    ap is_in (ap (λ seats. slice_get seats k) c.in-Some.ensures.left ∙ got_set (seats_in c.args.state.now.seats) k (Out []) (known (owed_edge c.args.state.now c.args.number (future_shape c.args.future.now) c.args.from.now c.requires.passed)))

pub put-came-requires-clause-known : goal.put-came-requires-clause-known
put-came-requires-clause-known c =
    let k = c.args.number in
    omega (arith, known (owed_edge c.args.state.now c.args.number (future_shape c.args.future.now) c.args.from.now c.requires.passed), ap length c.in-Some.ensures.left, length_set (seats_in c.args.state.now.seats) k (Out []))

pub returns-clause-delivered : goal.returns-clause-delivered
returns-clause-delivered c = λ h code s core owed.
    let x = c.args.state.now in
    let k = c.args.number in
    let f = future_shape c.args.future.now in
    let q = owed_edge x k f c.args.from.now (h, code, s, core, owed) in
    let z : Sees c.args.state.now c.args.number (future_shape c.args.future.now) c.in-Some.actor.value c.in-Some-value.value.now = record { taken = c.in-Some.ensures.taken; got = c.in-Some-value.ensures.value; held = c.in-Some-value.ensures.held } in
    let y : CoreState = record { alloc = x.alloc; seats = c.put-came.new.self; ranks = c.rank_again.new.ranks; futures = x.futures; journal = c.note.new.self; left = x.left; bursts = x.bursts } in
    let stands : Stands c.fill_each.new.self (filled q) (received q) =
    stands_then q z c.fill_each.new.self (λ p. unpack_each (receiver q).store (holders_from 0 (future_shape c.args.future.now) (receiver q).store) p) refl (c.in_ok-fill_each.ensures.stands (receiver q) (received q) (subst (λ a. Stands a (receiver q) (received q)) (sym c.as_mut-here.ensures.value) (stood q z))) in
    let entry : entry_shape c.in_ok-entry.entry ≡ Delivered (Edge f c.args.from.now owed.name) =
    c.in_ok-entry.ensures.entry ∙ ap (λ m. Delivered (Edge f c.args.from.now m)) (c.in_ok-to.ensures.name ∙ named_so q _ c.name.ensures.name) in
    core_then q y c.fill_each.new.self stands (c.fill_each.ensures.code ∙ ap code_of c.as_mut-here.ensures.value ∙ its_code q z)
    (c.fill_each.ensures.log ∙ ap log_in c.as_mut-here.ensures.value ∙ its_log q z)
    (record {
      seats = c.put-came.ensures.seats ∙ ap (λ seats. with_seat seats k (In c.fill_each.new.self)) c.in-Some.ensures.left ∙ set_twice (seats_in x.seats) k (Out []) (In c.fill_each.new.self);
      names = c.put-came.ensures.names ∙ c.take.ensures.names;
      kept = c.put-came.ensures.kept;
      here = c.in_ok-rank_again.ensures.here (rank_in s.configuration owed.name) (filled q) (received q) owed.name (ranked q) stands;
      others = c.in_ok-rank_again.ensures.others;
      futures = refl;
      entries = c.note.ensures.entries ∙ (λ i. c.reserve.ensures.entries i ++ entry i ∷ []);
      room = omega (arith, c.note.ensures.room, c.in_ok-reserve.ensures.room, c.len.ensures.len);
      left = refl;
      bursts = refl;
    })
