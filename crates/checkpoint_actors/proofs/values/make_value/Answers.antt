use Rattle.checkpoint_actors.proofs.ValueLemmas.{value_made}
use Rattle.checkpoint_actors.proofs.values.make_value.Goals as goal

pub make_parcel-requires : goal.make_parcel-requires
make_parcel-requires c = record { table = c.requires.table; proper = c.requires.proper }

pub returns : goal.returns
returns c = record { made = value_made _ _ _ _ _ c.in_ok-future.ensures.future c.in_ok-value.ensures.made }
