use Rattle.std.proofs.Common.{◌≡◌, take}
use Rattle.checkpoint_makes.proofs.cells.shorts.Given as goal

abbrev pub invariant-loop-place : goal.invariant-loop-place
invariant-loop-place l = l.shorts.items ≡ take l.place-index l.places
