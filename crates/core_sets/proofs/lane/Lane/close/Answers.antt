use Rattle.core_sets.proofs.LaneLemmas.{closed_lane, shown_again}
use Rattle.core_sets.proofs.lane.Lane.close.Goals as goal

pub returns-clause-shown : goal.returns-clause-shown
returns-clause-shown c =
    let l = c.args.self.now in
    shown_again l c.args.closed l.marks c.front-before.result c.front-after.result c.args.fronts.now c.show.new.fronts c.show-2.new.fronts c.requires.lane (closed_lane l c.args.closed c.requires.lane) c.requires.shown c.front-before.ensures.front c.show.ensures.shown c.front-after.ensures.front c.show-2.ensures.shown
