use Rattle.std.proofs.Common.{arith, ap, refl, sym}
use Rattle.std.proofs.lemmas.List.{get_or_read}
use Rattle.core_sets.specs.Lanes.{spot}
use Rattle.core_sets.proofs.LanesLemmas.{changed, closed_same, fit_in, others_so, spot_told, told_so, within_so}
use Rattle.core_sets.proofs.lanes.Lanes.set.Goals as goal

pub set-requires : goal.set-requires
set-requires c = record { tree = c.requires.lanes.marks; within = omega (arith, c.requires.within, c.requires.lanes.room) }

pub mark-requires-clause-tree : goal.mark-requires-clause-tree
mark-requires-clause-tree c = c.requires.lanes.fronts

pub returns-clause-marked : goal.returns-clause-marked
returns-clause-marked c = c.set.ensures.marked

pub returns-clause-spots : goal.returns-clause-spots
returns-clause-spots c = refl

pub mark-requires-clause-lane : goal.mark-requires-clause-lane
mark-requires-clause-lane c =
    let t = c.args.self.now in
    let s = c.index-spot.result.now in
    let x = spot_told t c.requires.lanes c.args.place s c.index_mut.result.now c.requires.within (get_or_read t.spots.items c.args.place s c.requires.within c.index-spot.ensures (spot 0 0)) c.index_mut.ensures.value in
    (c.requires.lanes.lanes s.lane c.index_mut.result.now x.0).lane

pub mark-requires-clause-within : goal.mark-requires-clause-within
mark-requires-clause-within c =
    let t = c.args.self.now in
    let s = c.index-spot.result.now in
    let x = spot_told t c.requires.lanes c.args.place s c.index_mut.result.now c.requires.within (get_or_read t.spots.items c.args.place s c.requires.within c.index-spot.ensures (spot 0 0)) c.index_mut.ensures.value in
    x.1

pub mark-requires-clause-room : goal.mark-requires-clause-room
mark-requires-clause-room c =
    let t = c.args.self.now in
    let s = c.index-spot.result.now in
    let x = spot_told t c.requires.lanes c.args.place s c.index_mut.result.now c.requires.within (get_or_read t.spots.items c.args.place s c.requires.within c.index-spot.ensures (spot 0 0)) c.index_mut.ensures.value in
    fit_in t c.requires.lanes s.lane c.index_mut.result.now x.0

pub mark-requires-clause-shown : goal.mark-requires-clause-shown
mark-requires-clause-shown c =
    let t = c.args.self.now in
    let s = c.index-spot.result.now in
    let x = spot_told t c.requires.lanes c.args.place s c.index_mut.result.now c.requires.within (get_or_read t.spots.items c.args.place s c.requires.within c.index-spot.ensures (spot 0 0)) c.index_mut.ensures.value in
    (c.requires.lanes.lanes s.lane c.index_mut.result.now x.0).shown

pub returns-clause-lanes : goal.returns-clause-lanes
returns-clause-lanes c =
    let t = c.args.self.now in
    let h = c.requires.lanes in
    let s = c.index-spot.result.now in
    let l = c.index_mut.result.now in
    let w = c.mark.ensures in
    let read = get_or_read t.spots.items c.args.place s c.requires.within c.index-spot.ensures (spot 0 0) in
    let x = spot_told t h c.args.place s l c.requires.within read c.index_mut.ensures.value in
    changed t _ s.lane l c.mark.new.self h (record {
      here = x.0;
      lanes = refl;
      spots = refl;
      lane = w.lane;
      places = ap (λ v. v.items) w.places;
      marks = c.set.ensures.tree;
      room = omega (arith, c.set.ensures.room, h.room);
      within = within_so t h c.args.place c.args.mark c.set.new.self c.requires.within c.set.ensures.marked;
      told = told_so t h s.lane l x.0 s.ordinal c.args.place c.args.mark c.mark.new.self.marks c.set.new.self x.1 x.2 w.marked c.set.ensures.marked;
      others = others_so t c.args.place s.lane c.args.mark c.set.new.self (ap (λ y. y.lane) (sym read)) c.set.ensures.marked;
      fronts = w.tree;
      front_room = omega (arith, w.kept, h.front_room);
      shown = w.shown;
      hidden = w.others;
    })

pub returns-clause-closed : goal.returns-clause-closed
returns-clause-closed c =
    let t = c.args.self.now in
    let s = c.index-spot.result.now in
    let l = c.index_mut.result.now in
    let x = spot_told t c.requires.lanes c.args.place s l c.requires.within (get_or_read t.spots.items c.args.place s c.requires.within c.index-spot.ensures (spot 0 0)) c.index_mut.ensures.value in
    closed_same t s.lane l c.mark.new.self x.0 c.mark.ensures.closed
