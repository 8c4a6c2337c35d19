use Rattle.std.proofs.Common.{◌≡◌, drop, map}
use Rattle.checkpoint_checks.specs.Maps.{has_in, with_futures}
use Rattle.checkpoint_checks.specs.Standing.{are_fresh, request_future}
use Rattle.checkpoint_checks.proofs.standing.meet_requests.Given as goal

abbrev pub invariant-loop-request : goal.invariant-loop-request
invariant-loop-request l =
    (with_futures (has_in l.met) (map request_future (drop l.request-index l.requests)) ≡ with_futures (has_in l.initial.met) (map request_future l.requests))
    × (are_fresh (has_in l.met) (map request_future (drop l.request-index l.requests)) ≡ are_fresh (has_in l.initial.met) (map request_future l.requests))
