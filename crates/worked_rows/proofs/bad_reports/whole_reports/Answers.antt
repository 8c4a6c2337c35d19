use Rattle.std.proofs.Common.{refl}
use Rattle.worked_rows.proofs.bad_reports.whole_reports.Goals as goal

pub returns : goal.returns
returns c = record { read = record { outputs = refl; statuses = refl; faults = refl } }
