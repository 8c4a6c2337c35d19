use Rattle.std.proofs.Common.{refl}
use Rattle.worked_rows.proofs.lending.refused_entries.Goals as goal

pub returns : goal.returns
returns c = record { out = refl; inside = refl; nobody = refl; communication = refl; granted = refl; spent = refl; unfilled = refl }
