use Rattle.std.proofs.Common.{◌≡◌, ◌++◌, take}
use Rattle.code_table.specs.Places.{placed}
use Rattle.deep_copy.specs.Reached.{used_places}
use Rattle.deep_copy.proofs.reached.note_used.Given as goal

abbrev pub invariant-loop-slot : goal.invariant-loop-slot
invariant-loop-slot l = l.places.items ≡ l.fn.places.items ++ used_places (placed l.captured) (take l.slot-index l.uses)
