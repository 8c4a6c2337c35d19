use Rattle.std.proofs.Common.{refl}
use Rattle.worked_rows.proofs.lending.delivered_answer.Goals as goal

pub returns : goal.returns
returns c = record { delivered = refl; owed = record { shows = refl; owed = refl; verdict = refl } }
