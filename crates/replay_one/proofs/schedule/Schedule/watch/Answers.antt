use Rattle.std.proofs.Common.{refl}
use Rattle.replay_one.proofs.ScheduleLemmas.{watch_to}
use Rattle.replay_one.proofs.schedule.Schedule.watch.Goals as goal

pub returns : goal.returns
returns c = record { watch = watch_to c.args.self.now c.reach.new.self _ c.args.number c.args.watch c.in_ok-reach.ensures.reached refl refl }
