use Rattle.std.proofs.Common.{refl}
use Rattle.worked_rows.proofs.lending.polls_in_commits.Goals as goal

pub returns : goal.returns
returns c = record { polls = record { before = refl; while_out = refl; not_last = refl } }
