use Rattle.std.proofs.Common.{refl}
use Rattle.std.specs.Fmt.{digits}
use Rattle.checkpoint_text.specs.Reading.{term}
use Rattle.checkpoint_text.proofs.rows.refused_checkpoints.Goals as goal

pub returns : goal.returns
unfolding digits term
returns c = record { empty = refl; title = refl; no_feed = refl; alone = refl; other = refl; no_end = refl; more = refl; cut = refl; long = refl; spaces = refl; zero = refl; return = refl; none = refl }
