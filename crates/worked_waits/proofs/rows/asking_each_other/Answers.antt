use Rattle.std.proofs.Common.{refl}
use Rattle.worked_waits.proofs.rows.asking_each_other.Goals as goal

pub returns : goal.returns
returns c = record { first = refl; second = refl; behind = refl; wait = refl }
