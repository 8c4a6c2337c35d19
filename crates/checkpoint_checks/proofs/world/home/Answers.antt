use Rattle.std.proofs.Common.{ap, ◌∙◌}
use Rattle.std.specs.Option.{option_map}
use Rattle.checkpoint_checks.specs.Maps.{home_in}
use Rattle.checkpoint_checks.proofs.world.home.Goals as goal

pub returns : goal.returns
unfolding home_in
returns c = record { home = ap (option_map (λ n. n.now)) (c.copied.ensures ∙ c.get.ensures.value) }
