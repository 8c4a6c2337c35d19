use Rattle.std.proofs.Common.{rules}
use Rattle.race_workers.proofs.SeatLemmas.{idle_at}
use Rattle.race_workers.proofs.work.take_second.Goals as goal

pub returns-else-is_some : goal.returns-else-is_some
returns-else-is_some g c = record { seat = idle_at c.args.hub.now c.args.seat.now c.args.held.now (search rules) c.requires.seat }
