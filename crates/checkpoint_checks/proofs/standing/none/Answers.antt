use Rattle.checkpoint_checks.proofs.MapLemmas.{has_in-empty}
use Rattle.checkpoint_checks.proofs.standing.none.Goals as goal

pub returns : goal.returns
returns c = record { empty = has_in-empty _ c.new.ensures.empty }
