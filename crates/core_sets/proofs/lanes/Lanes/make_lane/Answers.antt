use Rattle.std.proofs.Common.{◌∙◌, ◌∷◌, [], ap, arith, length, length-append}
use Rattle.core_sets.specs.Lanes.{is_closed_in}
use Rattle.std.specs.Prelude.{slice_get}
use Rattle.core_sets.proofs.LanesLemmas.{closed_append, more_lanes}
use Rattle.core_sets.proofs.lanes.Lanes.make_lane.Goals as goal

pub loop-self-preserved : goal.loop-self-preserved
loop-self-preserved c =
    let v = c.in_ok-push.ensures in
    let i = c.loop-self.invariant in
    let t = c.loop-self.self in
    let n = c.new.ensures in
    record {
      lanes = more_lanes t c.push.new.self c.new.result i.lanes n.lane n.none v.items;
      marks = i.marks;
      spots = i.spots;
      closed = λ k. ap (λ xs. is_closed_in (slice_get xs k)) v.items ∙ closed_append t.lanes.items c.new.result k n.open ∙ i.closed k;
      more = omega (arith, i.more, ap (λ xs. length xs) v.items, length-append t.lanes.items (c.new.result ∷ []));
    }
