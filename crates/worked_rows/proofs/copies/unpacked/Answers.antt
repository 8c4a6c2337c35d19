use Rattle.std.proofs.Common.{refl}
use Rattle.worked_rows.proofs.copies.unpacked.Goals as goal

pub returns : goal.returns
returns c = record {
  at_place = refl;
  behind = λ c d. record { root = refl; cells = refl; next = refl };
}
