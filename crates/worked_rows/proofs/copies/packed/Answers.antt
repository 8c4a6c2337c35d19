use Rattle.std.proofs.Common.{refl}
use Rattle.worked_rows.proofs.copies.packed.Goals as goal

pub returns : goal.returns
returns c = record {
  shared = refl;
  cycle = refl;
}
