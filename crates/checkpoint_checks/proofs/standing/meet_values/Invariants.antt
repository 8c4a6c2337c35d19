use Rattle.std.proofs.Common.{◌≡◌, drop, map}
use Rattle.checkpoint_checks.specs.Homes.{value_future}
use Rattle.checkpoint_checks.specs.Maps.{has_in, with_futures}
use Rattle.checkpoint_checks.specs.Standing.{are_fresh}
use Rattle.checkpoint_checks.proofs.standing.meet_values.Given as goal

abbrev pub invariant-loop-future : goal.invariant-loop-future
invariant-loop-future l =
    (with_futures (has_in l.met) (map value_future (drop l.future-index l.values)) ≡ with_futures (has_in l.initial.met) (map value_future l.values))
    × (are_fresh (has_in l.met) (map value_future (drop l.future-index l.values)) ≡ are_fresh (has_in l.initial.met) (map value_future l.values))
