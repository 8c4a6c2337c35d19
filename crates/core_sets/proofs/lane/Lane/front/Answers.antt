use Rattle.core_sets.proofs.LaneLemmas.{front_open}
use Rattle.core_sets.proofs.lane.Lane.front.Goals as goal

pub returns : goal.returns
returns c = record { front = front_open c.args.self.now c.first.result c.requires.lane c.if-self.false c.first.ensures.first }
