use Rattle.std.proofs.Common.{◌≡◌, drop, slice_get}
use Rattle.deep_copy.specs.Reached.{used_places}
use Rattle.code_table.specs.Places.{placed}
use Rattle.path_equal.proofs.children.used.Given as goal

abbrev pub invariant-loop-slot : goal.invariant-loop-slot
invariant-loop-slot l = slice_get (used_places (placed l.captured) (drop l.slot-index l.uses)) l.left ≡ slice_get (used_places (placed l.captured) l.uses) l.fn.nth
