use Rattle.checkpoint_checks.specs.Maps.{has_in}
use Rattle.checkpoint_checks.proofs.homes.stands.Goals as goal

pub returns : goal.returns
unfolding has_in
returns c = record { stands = c.contains.ensures }
