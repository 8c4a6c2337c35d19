use Rattle.std.proofs.Common.{refl}
use Rattle.std.specs.Fmt.{digits}
use Rattle.checkpoint_text.proofs.rows.stopped_at_three.Goals as goal

pub returns : goal.returns
unfolding digits
returns c = refl
