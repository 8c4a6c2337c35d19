use Rattle.std.proofs.Common.{◌≡◌, map, take}
use Rattle.code_table.specs.Moves.{move_of}
use Rattle.deep_copy.proofs.copied.moved_places.Given as goal

abbrev pub invariant-loop-place : goal.invariant-loop-place
invariant-loop-place l = l.copies.items ≡ map (move_of l.moves) (take l.place-index l.places)
