use Rattle.std.proofs.Common.{refl}
use Rattle.worked_rows.proofs.poll_rows.narrow_logs.Goals as goal

pub returns : goal.returns
returns c = record { narrow = record { none = refl; one = refl; two = refl; late_poll = refl; early_poll = refl } }
