use Rattle.std.proofs.Common.{◌≡◌, ◌<◌, ◌∙◌, ◌++◌, ◌∷◌, [], length, slice_get, refl, sym, ap, arith, subst}
use Rattle.asp_model.specs.History.{Delivered, Need}
use Rattle.asp_model.specs.Parcel.{unpack_at}
use Rattle.asp_model.specs.Shapes.{entry_shape, future_shape}
use Rattle.core_seats.specs.Seats.{In, Out, is_in, seats_in, with_seat}
use Rattle.core_seats.proofs.SeatLemmas.{length_set, set_twice}
use Rattle.step_activity.specs.Actors.{Stands, code_of, log_in}
use Rattle.law_core.specs.Ranked.{rank_in}
use Rattle.core_state.specs.declared.state.CoreState.{CoreState}
use Rattle.core_state.proofs.ListLemmas.{got_set}
use Rattle.core_state.proofs.ReceivingLemmas.{Sees, core_then, filled, filled_closed, in_its_store, its_code, its_log, known, named_so, ranked, received, receiver, somebody_there, stands_then, stood, value_closed, value_code, value_there, values_closed}
use Rattle.core_state.proofs.NeedLemmas.{owed_need, place_within}
use Rattle.core_state.proofs.need.deliver_need.Goals as goal

pub name-requires-clause-known : goal.name-requires-clause-known
name-requires-clause-known c = known (owed_need c.args.state.now c.args.number c.args.loc (future_shape c.args.future.now) c.requires.need)

pub take-requires-clause-known : goal.take-requires-clause-known
take-requires-clause-known c = known (owed_need c.args.state.now c.args.number c.args.loc (future_shape c.args.future.now) c.requires.need)

pub unreachable-requires : goal.unreachable-requires
unreachable-requires c = somebody_there (owed_need c.args.state.now c.args.number c.args.loc (future_shape c.args.future.now) c.requires.need) c.in_default.ensures.taken

pub unreachable-requires-in_default-value : goal.unreachable-requires-in_default-value
unreachable-requires-in_default-value c = value_there (owed_need c.args.state.now c.args.number c.args.loc (future_shape c.args.future.now) c.requires.need) (sym c.in_default-value.ensures.value)

pub fill-requires-clause-value : goal.fill-requires-clause-value
fill-requires-clause-value c =
    let z : Sees c.args.state.now c.args.number (future_shape c.args.future.now) c.in-Some.actor.value c.in-Some-value.value.now = record { taken = c.in-Some.ensures.taken; got = c.in-Some-value.ensures.value; held = c.in-Some-value.ensures.held } in
    value_closed (owed_need c.args.state.now c.args.number c.args.loc (future_shape c.args.future.now) c.requires.need) z

pub fill-requires-clause-within : goal.fill-requires-clause-within
fill-requires-clause-within c =
    let z : Sees c.args.state.now c.args.number (future_shape c.args.future.now) c.in-Some.actor.value c.in-Some-value.value.now = record { taken = c.in-Some.ensures.taken; got = c.in-Some-value.ensures.value; held = c.in-Some-value.ensures.held } in
    subst (λ a. c.args.loc < length a.activity.state.store.cells) (sym c.as_mut-here.ensures.value)
    (in_its_store (owed_need c.args.state.now c.args.number c.args.loc (future_shape c.args.future.now) c.requires.need) z c.args.loc (place_within c.args.state.now c.args.number c.args.loc (future_shape c.args.future.now) c.requires.need))

pub fill-requires-clause-code : goal.fill-requires-clause-code
fill-requires-clause-code c =
    let z : Sees c.args.state.now c.args.number (future_shape c.args.future.now) c.in-Some.actor.value c.in-Some-value.value.now = record { taken = c.in-Some.ensures.taken; got = c.in-Some-value.ensures.value; held = c.in-Some-value.ensures.held } in
    value_code (owed_need c.args.state.now c.args.number c.args.loc (future_shape c.args.future.now) c.requires.need) z ∙ ap code_of (sym c.as_mut-here.ensures.value)

pub rank_again-requires-clause-closed : goal.rank_again-requires-clause-closed
rank_again-requires-clause-closed c =
    let q = owed_need c.args.state.now c.args.number c.args.loc (future_shape c.args.future.now) c.requires.need in
    let z : Sees c.args.state.now c.args.number (future_shape c.args.future.now) c.in-Some.actor.value c.in-Some-value.value.now = record { taken = c.in-Some.ensures.taken; got = c.in-Some-value.ensures.value; held = c.in-Some-value.ensures.held } in
    filled_closed q c.fill.new.self (stands_then q z c.fill.new.self (λ p. unpack_at (receiver q).store c.args.loc p) refl (c.in_ok-fill.ensures.stands (receiver q) (received q) (subst (λ a. Stands a (receiver q) (received q)) (sym c.as_mut-here.ensures.value) (stood q z))))

pub rank_again-requires-clause-values : goal.rank_again-requires-clause-values
rank_again-requires-clause-values c = values_closed (owed_need c.args.state.now c.args.number c.args.loc (future_shape c.args.future.now) c.requires.need)

pub rank_again-requires-clause-ranked : goal.rank_again-requires-clause-ranked
rank_again-requires-clause-ranked c =
    let q = owed_need c.args.state.now c.args.number c.args.loc (future_shape c.args.future.now) c.requires.need in
    (rank_in q.s.configuration q.r.name, ranked q)

pub put-came-requires-clause-out : goal.put-came-requires-clause-out
put-came-requires-clause-out c =
    let k = c.args.number in
    ap is_in (ap (λ seats. slice_get seats k) c.in-Some.ensures.left ∙ got_set (seats_in c.args.state.now.seats) k (Out []) (known (owed_need c.args.state.now c.args.number c.args.loc (future_shape c.args.future.now) c.requires.need)))

pub put-came-requires-clause-known : goal.put-came-requires-clause-known
put-came-requires-clause-known c =
    let k = c.args.number in
    omega (arith, known (owed_need c.args.state.now c.args.number c.args.loc (future_shape c.args.future.now) c.requires.need), ap length c.in-Some.ensures.left, length_set (seats_in c.args.state.now.seats) k (Out []))

pub returns-clause-delivered : goal.returns-clause-delivered
returns-clause-delivered c = λ h code s core owed.
    let x = c.args.state.now in
    let k = c.args.number in
    let f = future_shape c.args.future.now in
    let q = owed_need x k c.args.loc f (h, code, s, core, owed) in
    let z : Sees c.args.state.now c.args.number (future_shape c.args.future.now) c.in-Some.actor.value c.in-Some-value.value.now = record { taken = c.in-Some.ensures.taken; got = c.in-Some-value.ensures.value; held = c.in-Some-value.ensures.held } in
    let y : CoreState = record { alloc = x.alloc; seats = c.put-came.new.self; ranks = c.rank_again.new.ranks; futures = x.futures; journal = c.note.new.self; left = x.left; bursts = x.bursts } in
    let stands : Stands c.fill.new.self (filled q) (received q) =
    stands_then q z c.fill.new.self (λ p. unpack_at (receiver q).store c.args.loc p) refl (c.in_ok-fill.ensures.stands (receiver q) (received q) (subst (λ a. Stands a (receiver q) (received q)) (sym c.as_mut-here.ensures.value) (stood q z))) in
    let entry : entry_shape c.in_ok-entry.entry ≡ Delivered (Need f owed.name c.args.loc) =
    c.in_ok-entry.ensures.entry ∙ ap (λ m. Delivered (Need f m c.args.loc)) (c.in_ok-to.ensures.name ∙ named_so q _ c.name.ensures.name) in
    core_then q y c.fill.new.self stands (c.fill.ensures.code ∙ ap code_of c.as_mut-here.ensures.value ∙ its_code q z)
    (c.fill.ensures.log ∙ ap log_in c.as_mut-here.ensures.value ∙ its_log q z)
    (record {
      seats = c.put-came.ensures.seats ∙ ap (λ seats. with_seat seats k (In c.fill.new.self)) c.in-Some.ensures.left ∙ set_twice (seats_in x.seats) k (Out []) (In c.fill.new.self);
      names = c.put-came.ensures.names ∙ c.take.ensures.names;
      kept = c.put-came.ensures.kept;
      here = c.in_ok-rank_again.ensures.here (rank_in s.configuration owed.name) (filled q) (received q) owed.name (ranked q) stands;
      others = c.in_ok-rank_again.ensures.others;
      futures = refl;
      entries = c.note.ensures.entries ∙ (λ i. c.reserve.ensures.entries i ++ entry i ∷ []);
      room = omega (arith, c.note.ensures.room, c.in_ok-reserve.ensures.room, c.len.ensures.len);
      left = refl;
      bursts = refl;
    })
