use Rattle.race_workers.proofs.SeatLemmas.{worked_at}
use Rattle.race_workers.proofs.work.work.Goals as goal

pub loop-preserved : goal.loop-preserved
loop-preserved g c = (
  worked_at c.args.hub.now c.take_turn-rests.new.seat c.take_turn-rests.new.held c.work_at.new.held c.work_at.ensures.worked c.take_turn-rests.ensures.seat,
  worked_at c.args.hub.now c.take_second.new.seat c.take_second.new.held c.work_at-in-loop.new.held c.work_at-in-loop.ensures.worked c.take_second.ensures.seat,
)
