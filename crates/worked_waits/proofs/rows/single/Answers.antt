use Rattle.std.proofs.Common.{refl}
use Rattle.worked_waits.proofs.rows.single.Goals as goal

pub returns : goal.returns
returns c = record { served = refl; service = refl; fault = refl; over = refl }
