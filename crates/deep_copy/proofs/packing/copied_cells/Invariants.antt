use Rattle.std.proofs.Common.{◌≡◌, map, take}
use Rattle.deep_copy.specs.Copied.{copied_cell}
use Rattle.deep_copy.proofs.packing.copied_cells.Given as goal

abbrev pub invariant-loop-place : goal.invariant-loop-place
invariant-loop-place l = l.columns.items ≡ map (copied_cell l.moves l.store.cells) (take l.place-index l.places)
