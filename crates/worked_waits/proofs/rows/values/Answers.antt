use Rattle.std.proofs.Common.{refl}
use Rattle.worked_waits.proofs.rows.values.Goals as goal

pub returns : goal.returns
returns c = record { itself = refl; nobody = refl; two = refl }
