use Rattle.std.proofs.Common.{refl}
use Rattle.worked_rows.proofs.bad_reports.line_forms.Goals as goal

pub returns : goal.returns
returns c = record { bad_lines = record { title = refl; verdict = refl; status = refl; fault = refl; awaited = refl; spaces = refl; no_senders = refl; sender = refl; output = refl; empty_line = refl } }
