use Rattle.future_update.proofs.SettlingLemmas.{none_beyond}
use Rattle.future_update.proofs.records.Records.owes.Goals as goal

pub returns-then-place-len : goal.returns-then-place-len
returns-then-place-len c = record { owed = c.owes_kept.ensures.owed }

pub returns-else-place-len : goal.returns-else-place-len
returns-else-place-len c = record { owed = none_beyond c.args.self.now c.args.place c.len.result c.len.ensures.len c.if-place-len.false }
