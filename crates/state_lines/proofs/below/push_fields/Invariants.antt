use Rattle.std.proofs.Common.{◌≤◌, drop, length, map}
use Rattle.code_table.specs.Tables.{text_of}
use Rattle.state_lines.specs.Below.{Pushes, StaySpots, fields_below, place_in}
use Rattle.state_lines.proofs.below.push_fields.Given as goal

abbrev pub invariant-loop-left : goal.invariant-loop-left
invariant-loop-left l = record {
  low : l.left ≤ length l.labels;
  within : l.left ≤ length l.places;
  pending : Pushes l.parent l.fn.due.items l.due.items (fields_below l.parent.path.now (place_in l.parent) (drop l.left (map text_of l.labels)) (drop l.left l.places));
  spots : StaySpots l.parent l.fn.due.items l.due.items;
}

abbrev pub decreases-loop-left : goal.decreases-loop-left
decreases-loop-left l = l.left
