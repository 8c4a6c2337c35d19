use Rattle.std.proofs.Common.{refl}
use Rattle.worked_rows.proofs.lending.grants.Goals as goal

pub returns : goal.returns
returns c = record { commit = refl; most = refl; rest = refl }
