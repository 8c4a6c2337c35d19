use Rattle.checkpoint_actors.proofs.MapLemmas.{count_in-empty}
use Rattle.checkpoint_actors.proofs.counts.empty.Goals as goal

pub returns : goal.returns
returns c = record { empty = count_in-empty _ c.new.ensures.empty }
