use Rattle.std.proofs.Common.{◌≡◌, drop, map}
use Rattle.std.specs.List.{list_all}
use Rattle.checkpoint_checks.specs.Maps.{homes_of}
use Rattle.checkpoint_checks.specs.Activities.{answer_fits, service_future}
use Rattle.checkpoint_checks.proofs.activities.check_suspended.Given as goal

abbrev pub invariant-loop-service : goal.invariant-loop-service
invariant-loop-service l = list_all (answer_fits (homes_of l.world) l.name) (map service_future (drop l.service-index l.services)) ≡ list_all (answer_fits (homes_of l.world) l.name) (map service_future l.services)
