use Rattle.std.proofs.Common.{◌≡◌, drop, map}
use Rattle.std.specs.List.{list_all}
use Rattle.std.specs.Option.{is_some}
use Rattle.checkpoint_checks.specs.Activities.{service_future}
use Rattle.checkpoint_checks.proofs.activities.check_all_answer.Given as goal

abbrev pub invariant-loop-service : goal.invariant-loop-service
invariant-loop-service l = list_all (λ g. is_some g) (map service_future (drop l.service-index l.services)) ≡ list_all (λ g. is_some g) (map service_future l.services)
