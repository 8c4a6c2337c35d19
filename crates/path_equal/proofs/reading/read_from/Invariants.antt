use Rattle.std.proofs.Common.{◌≡◌, drop}
use Rattle.def_paths.specs.PathLabels.{leads_by}
use Rattle.def_paths.specs.Places.{Place, In_store}
use Rattle.path_equal.specs.Reading.{labels_shape}
use Rattle.run_ends.specs.Reads.{IsAt}
use Rattle.state_lines.specs.States.{side_in}
use Rattle.path_equal.proofs.reading.read_from.Given as goal

abbrev pub invariant-loop-label : goal.invariant-loop-label
invariant-loop-label l = (q : Place) × IsAt (side_in l.state) l.at q
    × (leads_by (side_in l.state) (labels_shape (drop l.label-index l.path)) q ≡ leads_by (side_in l.state) (labels_shape l.path) (In_store l.fn.place))
