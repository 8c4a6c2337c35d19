use Rattle.std.proofs.Common.{◌≡◌, drop, map}
use Rattle.std.specs.List.{list_all}
use Rattle.checkpoint_reading.specs.Cells.{request_shape}
use Rattle.checkpoint_checks.specs.Maps.{activities_of, homes_of}
use Rattle.checkpoint_checks.specs.Cells.{request_fits}
use Rattle.checkpoint_checks.proofs.parcels.check_requests.Given as goal

abbrev pub invariant-loop-request : goal.invariant-loop-request
invariant-loop-request l = list_all (request_fits (activities_of l.world) (homes_of l.world) l.name) (map request_shape (drop l.request-index l.requests)) ≡ list_all (request_fits (activities_of l.world) (homes_of l.world) l.name) (map request_shape l.requests)
