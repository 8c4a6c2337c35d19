use Rattle.std.proofs.Common.{◌≡◌, take}
use Rattle.std.specs.List.{flat_map}
use Rattle.path_equal.specs.Held.{use_held}
use Rattle.path_equal.specs.Searches.{searched}
use Rattle.path_equal.proofs.code.past_body.Given as goal

abbrev pub invariant-loop-slot : goal.invariant-loop-slot
invariant-loop-slot l = l.search ≡ searched (flat_map (use_held l.places l.method.captured.items) (take l.slot-index l.method.uses.items)) l.fn.start
