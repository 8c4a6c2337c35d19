use Rattle.std.proofs.Common.{refl}
use Rattle.worked_rows.proofs.bad_reports.orders_of_names.Goals as goal

pub returns : goal.returns
returns c = record { bad_lines = record { not_main = refl; no_main = refl; twice = refl; falling = refl } }
