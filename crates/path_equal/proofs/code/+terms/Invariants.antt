use Rattle.std.proofs.Common.{◌≡◌, ◌+◌, ◌*◌, take}
use Rattle.std.specs.List.{flat_map}
use Rattle.code_table.specs.Tables.{pieces}
use Rattle.code_reading.specs.Decoded.{rank}
use Rattle.path_equal.specs.Held.{child_held}
use Rattle.path_equal.specs.Searches.{searched}
use Rattle.path_equal.proofs.code.+terms.Given as goal

abbrev pub decreases-past_child : goal.decreases-past_child
decreases-past_child l = 3 * rank l.child.now

abbrev pub decreases-past_children : goal.decreases-past_children
decreases-past_children l = 3 * l.number + 1

abbrev pub decreases-past_node : goal.decreases-past_node
decreases-past_node l = 3 * l.number + 2

abbrev pub invariant-past_children-loop-child : goal.invariant-past_children-loop-child
invariant-past_children-loop-child l = l.search ≡ searched (flat_map (child_held l.places (pieces l.code)) (take l.child-index l.children)) l.fn.start
