use Rattle.std.proofs.Common.{refl}
use Rattle.std.specs.Fmt.{digits}
use Rattle.checkpoint_text.proofs.rows.item_rows.Goals as goal

pub returns : goal.returns
unfolding digits
returns c = record { texts = refl; homes = refl; log = refl; nothing = refl; something = refl; call = refl; object = refl; group = refl; request = refl }
