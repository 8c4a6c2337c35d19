use Rattle.checkpoint_checks.proofs.MapLemmas.{activity_in-empty}
use Rattle.checkpoint_checks.proofs.names.empty.Goals as goal

pub returns : goal.returns
returns c = record { empty = activity_in-empty _ c.new.ensures.empty }
