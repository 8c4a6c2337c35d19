use Rattle.std.proofs.Common.{refl}
use Rattle.worked_rows.proofs.chases.cycles.Goals as goal

pub returns : goal.returns
returns c = record {
  both = record { first = refl; second = refl };
  leads = record { first = refl; second = refl };
}
