use Rattle.std.proofs.Common.{◌≡◌, None, drop, map}
use Rattle.std.specs.Option.{option_map}
use Rattle.asp_model.specs.Shapes.{future_shape}
use Rattle.checkpoint_checks.specs.Homes.{ascend_from, home_future}
use Rattle.checkpoint_checks.proofs.homes.check_homes_ascend.Given as goal

abbrev pub invariant-loop-future : goal.invariant-loop-future
invariant-loop-future l = ascend_from (option_map (λ f. future_shape f.now) l.last) (map home_future (drop l.future-index l.homes)) ≡ ascend_from None (map home_future l.homes)
