use Rattle.std.proofs.Common.{refl}
use Rattle.worked_rows.proofs.bad_reports.cut_reports.Goals as goal

pub returns : goal.returns
returns c = record { bad_lines = record { nothing = refl; title = refl; verdict = refl; activity = refl; no_feed = refl; senders_feed = refl } }
