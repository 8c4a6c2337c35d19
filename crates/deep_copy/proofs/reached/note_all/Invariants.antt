use Rattle.std.proofs.Common.{◌≡◌, ◌++◌, take}
use Rattle.code_table.specs.Places.{placed}
use Rattle.deep_copy.proofs.reached.note_all.Given as goal

abbrev pub invariant-loop-at : goal.invariant-loop-at
invariant-loop-at l = l.places.items ≡ l.fn.places.items ++ take l.at (placed l.held)
