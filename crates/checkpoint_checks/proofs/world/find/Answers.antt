use Rattle.std.proofs.Common.{ap, ◌∙◌}
use Rattle.std.specs.Option.{option_map}
use Rattle.checkpoint_parts.specs.Shapes.{activity_shape}
use Rattle.checkpoint_checks.specs.Maps.{activity_in}
use Rattle.checkpoint_checks.proofs.world.find.Goals as goal

pub returns : goal.returns
unfolding activity_in
returns c = record { found = ap (option_map (λ a. activity_shape a.now)) (c.copied.ensures ∙ c.get.ensures.value) }
