use Rattle.std.proofs.Common.{◌≡◌, drop}
use Rattle.std.specs.List.{flat_map}
use Rattle.checkpoint_checks.specs.Maps.{has_in, with_futures}
use Rattle.checkpoint_checks.specs.Standing.{are_fresh, service_futures}
use Rattle.checkpoint_checks.proofs.standing.meet_services.Given as goal

abbrev pub invariant-loop-service : goal.invariant-loop-service
invariant-loop-service l =
    (with_futures (has_in l.met) (flat_map service_futures (drop l.service-index l.services)) ≡ with_futures (has_in l.initial.met) (flat_map service_futures l.services))
    × (are_fresh (has_in l.met) (flat_map service_futures (drop l.service-index l.services)) ≡ are_fresh (has_in l.initial.met) (flat_map service_futures l.services))
