use Rattle.std.proofs.Common.{◌∙◌, arith, ap, refl}
use Rattle.std.proofs.lemmas.Option.{slice_get_read}
use Rattle.core_sets.specs.declared.marks.Marks.{Marks}
use Rattle.core_sets.specs.Lanes.{lane_count}
use Rattle.core_sets.specs.Marks.{is_marked}
use Rattle.core_sets.proofs.LanesLemmas.{changed, closed_so, fit_in}
use Rattle.core_sets.proofs.lanes.Lanes.close.Goals as goal

pub close-requires : goal.close-requires
close-requires c =
    let t = c.args.self.now in
    let l = c.index_mut.result.now in
    let h = c.requires.lanes in
    let here = slice_get_read t.lanes.items (lane_count t) c.args.lane l refl c.requires.within c.index_mut.ensures.value in
    let g = h.lanes c.args.lane l here in
    record { lane = g.lane; tree = h.fronts; room = fit_in t h c.args.lane l here; shown = g.shown }

pub returns-clause-lanes : goal.returns-clause-lanes
returns-clause-lanes c = let v = c.index_mut.ensures in let w = c.close.ensures in
    let t = c.args.self.now in
    let l = c.index_mut.result.now in
    let h = c.requires.lanes in
    let here = slice_get_read t.lanes.items (lane_count t) c.args.lane l refl c.requires.within v.value in
    changed t _ c.args.lane l c.close.new.self h (record {
      here = here;
      lanes = refl;
      spots = refl;
      lane = w.lane;
      places = ap (λ v. v.items) w.places;
      marks = h.marks;
      room = h.room;
      within = h.within;
      told = λ i lt. ap (λ (n : Marks). is_marked n i) w.marks ∙ (h.lanes c.args.lane l here).told i lt;
      others = λ p ne. refl;
      fronts = w.tree;
      front_room = omega (arith, w.kept, h.front_room);
      shown = w.shown;
      hidden = w.others;
    })

pub returns-clause-closed : goal.returns-clause-closed
returns-clause-closed c = closed_so c.args.self.now c.args.lane c.close.new.self c.args.closed c.requires.within c.close.ensures.closed
