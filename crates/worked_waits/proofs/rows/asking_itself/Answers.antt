use Rattle.std.proofs.Common.{refl}
use Rattle.worked_waits.proofs.rows.asking_itself.Goals as goal

pub returns : goal.returns
returns c = refl
