use Rattle.std.proofs.Common.{◌+◌, ap}
use Rattle.checkpoint_actors.proofs.MapLemmas.{count_in-insert}
use Rattle.checkpoint_actors.proofs.counts.add.Goals as goal

pub returns : goal.returns
returns c = record { counts = count_in-insert c.args.counts.now c.insert.new.self c.args.name _ c.in_ok-insert.ensures.updates (ap (λ k. k + 1) c.count_of-before.ensures.count) }
