use Rattle.std.proofs.Common.{◌≡◌, ◌∙◌, ◌++◌, ◌∷◌, [], arith, rules, ap, refl, sym}
use Rattle.std.proofs.lemmas.Option.{slice_get_read}
use Rattle.core_sets.specs.Lanes.{lane_count, spot}
use Rattle.core_sets.proofs.LanesLemmas.{changed, closed_same, grown, on_err, shown_still}
use Rattle.core_sets.proofs.lanes.Lanes.add.Goals as goal

pub returns-in_err-reserve-clause-err : goal.returns-in_err-reserve-clause-err
returns-in_err-reserve-clause-err c = on_err c.from_residual-in_err-reserve.result _ c.in_err-reserve.ensures.items

pub add-requires-clause-lane : goal.add-requires-clause-lane
add-requires-clause-lane c =
    let t = c.args.self.now in
    let l = c.index_mut.result.now in
    (c.requires.lanes.lanes c.args.lane l (slice_get_read t.lanes.items (lane_count t) c.args.lane l refl c.requires.lane c.index_mut.ensures.value)).lane

pub add-requires-clause-last : goal.add-requires-clause-last
add-requires-clause-last c =
    let t = c.args.self.now in
    let l = c.index_mut.result.now in
    let g = c.requires.lanes.lanes c.args.lane l (slice_get_read t.lanes.items (lane_count t) c.args.lane l refl c.requires.lane c.index_mut.ensures.value) in
    λ i lt. let r = g.within i lt in omega (arith, r, c.len-place.ensures)

pub returns-in_err-ordinal-clause-lanes : goal.returns-in_err-ordinal-clause-lanes
returns-in_err-ordinal-clause-lanes c =
    let t = c.args.self.now in
    let h = c.requires.lanes in
    let l = c.index_mut.result.now in
    let w = c.in_err-ordinal.ensures in
    let here = slice_get_read t.lanes.items (lane_count t) c.args.lane l refl c.requires.lane c.index_mut.ensures.value in
    changed t _ c.args.lane l c.add.new.self h (record {
      here = here;
      lanes = refl;
      spots = c.in_ok-reserve.ensures.items;
      lane = w.lane;
      places = w.err;
      marks = c.make_room.ensures.tree;
      room = omega (arith, h.room, c.make_room.ensures.kept);
      within = λ p e. h.within p (sym (c.make_room.ensures.same p) ∙ e);
      told = λ i lt. w.marks i ∙ (h.lanes c.args.lane l here).told i lt ∙ sym (c.make_room.ensures.same _);
      others = λ p ne. c.make_room.ensures.same p;
      fronts = c.make_room-2.ensures.tree;
      front_room = omega (arith, h.front_room, c.make_room-2.ensures.kept);
      shown = shown_still l c.add.new.self t.fronts c.make_room-2.new.self w.err w.closed w.marks c.make_room-2.ensures.same (h.lanes c.args.lane l here).shown;
      hidden = λ p no. c.make_room-2.ensures.same p;
    })

pub returns-in_err-ordinal-clause-closed : goal.returns-in_err-ordinal-clause-closed
returns-in_err-ordinal-clause-closed c =
    let t = c.args.self.now in
    let l = c.index_mut.result.now in
    closed_same t c.args.lane l c.add.new.self (slice_get_read t.lanes.items (lane_count t) c.args.lane l refl c.requires.lane c.index_mut.ensures.value) c.in_err-ordinal.ensures.closed

pub returns-in_err-ordinal-clause-err : goal.returns-in_err-ordinal-clause-err
returns-in_err-ordinal-clause-err c = on_err c.from_residual-in_err-ordinal.result _ c.in_ok-reserve.ensures.items

pushed : (c : goal.After-push) → c.push.new.self.items ≡ c.args.self.now.spots.items ++ spot c.args.lane c.in_ok-ordinal.ordinal ∷ []
pushed c =
    let added : c.push.new.self.items ≡ c.reserve.new.self.items ++ spot c.args.lane c.in_ok-ordinal.ordinal ∷ [] = search rules in
    added ∙ ap (λ xs. xs ++ spot c.args.lane c.in_ok-ordinal.ordinal ∷ []) c.in_ok-reserve.ensures.items

pub returns-clause-lanes : goal.returns-clause-lanes
returns-clause-lanes c =
    let t = c.args.self.now in
    let l = c.index_mut.result.now in
    let w = c.in_ok-ordinal.ensures in
    let room = c.in_ok-make_room.ensures.room in
    let front_room = c.in_ok-make_room-2.ensures.room in
    grown t _ c.args.lane l c.add.new.self c.requires.lanes (record {
      here = slice_get_read t.lanes.items (lane_count t) c.args.lane l refl c.requires.lane c.index_mut.ensures.value;
      lanes = refl;
      spots = pushed c ∙ ap (λ i. t.spots.items ++ spot c.args.lane i ∷ []) w.ordinal;
      lane = w.lane;
      places = w.places ∙ ap (λ p. l.places.items ++ p ∷ []) (c.len-place.ensures ∙ t.spots.ok.0);
      closed = w.closed;
      ordinals = w.marks;
      marks = c.make_room.ensures.tree;
      same = c.make_room.ensures.same;
      room = omega (arith, room, c.len-place.ensures, t.spots.ok.0);
      fronts = c.make_room-2.ensures.tree;
      front_same = c.make_room-2.ensures.same;
      front_room = omega (arith, front_room, c.len-place.ensures, t.spots.ok.0);
    })

pub returns-clause-closed : goal.returns-clause-closed
returns-clause-closed c =
    let t = c.args.self.now in
    let l = c.index_mut.result.now in
    closed_same t c.args.lane l c.add.new.self (slice_get_read t.lanes.items (lane_count t) c.args.lane l refl c.requires.lane c.index_mut.ensures.value) c.in_ok-ordinal.ensures.closed
