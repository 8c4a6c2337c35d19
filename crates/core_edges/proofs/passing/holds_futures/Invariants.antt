use Rattle.std.proofs.Common.{◌≡◌, [], take}
use Rattle.core_edges.specs.Passing.{futures_held}
use Rattle.core_edges.proofs.passing.holds_futures.Given as goal

abbrev pub invariant-loop-place : goal.invariant-loop-place
invariant-loop-place l = futures_held (take l.place l.cells.items) ≡ []
