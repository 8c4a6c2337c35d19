use Rattle.std.proofs.Common.{◌≡◌, ◌+◌, ◌-◌, ◌≤◌}
use Rattle.core_sets.specs.Lanes.{AreLanes, SameClosed, lane_count}
use Rattle.core_sets.proofs.lanes.Lanes.make_lane.Given as goal

abbrev pub invariant-loop-self : goal.invariant-loop-self
invariant-loop-self l = record {
  lanes : AreLanes l.self;
  marks : l.self.marks ≡ l.fn.self.marks;
  spots : l.self.spots ≡ l.fn.self.spots;
  closed : SameClosed l.fn.self l.self;
  more : lane_count l.fn.self ≤ lane_count l.self;
}

abbrev pub decreases-loop-self : goal.decreases-loop-self
decreases-loop-self l = l.lane + 1 - lane_count l.self
