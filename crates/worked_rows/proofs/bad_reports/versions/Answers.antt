use Rattle.std.proofs.Common.{refl}
use Rattle.worked_rows.proofs.bad_reports.versions.Goals as goal

pub returns : goal.returns
returns c = record { read = record { polls = refl; earlier = refl; no_polls = refl; two_at_once = refl } }
