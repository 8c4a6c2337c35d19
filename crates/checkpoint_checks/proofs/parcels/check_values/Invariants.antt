use Rattle.std.proofs.Common.{◌≡◌, drop, map}
use Rattle.std.specs.List.{list_all}
use Rattle.checkpoint_reading.specs.Cells.{value_shape}
use Rattle.checkpoint_checks.specs.Maps.{activities_of, homes_of}
use Rattle.checkpoint_checks.specs.Cells.{value_fits}
use Rattle.checkpoint_checks.proofs.parcels.check_values.Given as goal

abbrev pub invariant-loop-future : goal.invariant-loop-future
invariant-loop-future l = list_all (value_fits (activities_of l.world) (homes_of l.world)) (map value_shape (drop l.future-index l.values)) ≡ list_all (value_fits (activities_of l.world) (homes_of l.world)) (map value_shape l.values)
