use Rattle.std.proofs.Common.{◌≡◌, drop}
use Rattle.std.specs.List.{list_all}
use Rattle.checkpoint_checks.specs.Activities.{service_fits}
use Rattle.checkpoint_checks.proofs.activities.check_services.Given as goal

abbrev pub invariant-loop-service : goal.invariant-loop-service
invariant-loop-service l = list_all (service_fits l.size) (drop l.service-index l.services) ≡ list_all (service_fits l.size) l.services
