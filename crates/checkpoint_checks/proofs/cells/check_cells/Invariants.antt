use Rattle.std.proofs.Common.{◌≡◌, drop, map}
use Rattle.std.specs.List.{list_all}
use Rattle.checkpoint_reading.specs.Cells.{cell_shape}
use Rattle.checkpoint_checks.specs.Maps.{activities_of, homes_of}
use Rattle.checkpoint_checks.specs.Cells.{cell_fits}
use Rattle.checkpoint_checks.proofs.cells.check_cells.Given as goal

abbrev pub invariant-loop-cell : goal.invariant-loop-cell
invariant-loop-cell l = list_all (cell_fits (activities_of l.world) (homes_of l.world) l.size) (map cell_shape (drop l.cell-index l.cells)) ≡ list_all (cell_fits (activities_of l.world) (homes_of l.world) l.size) (map cell_shape l.cells)
