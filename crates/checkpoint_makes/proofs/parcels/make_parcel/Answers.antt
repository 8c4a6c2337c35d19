use Rattle.std.proofs.Common.{◌∙◌}
use Rattle.checkpoint_makes.proofs.MadeLemmas.{parcel_made}
use Rattle.checkpoint_makes.proofs.parcels.make_parcel.Goals as goal

pub returns : goal.returns
returns c = record { made = parcel_made _ _ _ _ c.args.parcel _ c.in_ok-columns.ensures.made c.in_ok-cells.ensures.items (c.in_ok-places.ensures.same ∙ c.deref.ensures.value) c.of-roots.ensures.items }
