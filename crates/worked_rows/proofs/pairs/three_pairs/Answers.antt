use Rattle.std.proofs.Common.{refl}
use Rattle.std.specs.Fmt.{digits}
use Rattle.worked_rows.proofs.pairs.three_pairs.Goals as goal

pub returns : goal.returns
unfolding digits
returns c = record { summary = refl }
