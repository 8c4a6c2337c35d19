use Rattle.checkpoint_checks.proofs.MapLemmas.{home_in-empty}
use Rattle.checkpoint_checks.proofs.homes.empty.Goals as goal

pub returns : goal.returns
returns c = record { empty = home_in-empty _ c.new.ensures.empty }
