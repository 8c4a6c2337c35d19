use Rattle.std.proofs.Common.{refl}
use Rattle.worked_rows.proofs.bad_reports.numbers_in_lines.Goals as goal

pub returns : goal.returns
returns c = record { bad_lines = record { nine_digits = refl; leading_zero = refl; no_digits = refl; sum = refl; number_of_zero = refl; long_number = refl; index = refl } }
