use Rattle.core_sets.proofs.LaneLemmas.{marked_lane, shown_again}
use Rattle.core_sets.proofs.lane.Lane.mark.Goals as goal

pub returns-clause-shown : goal.returns-clause-shown
returns-clause-shown c =
    let l = c.args.self.now in
    let lane = marked_lane l c.set.new.self c.args.ordinal c.args.mark c.requires.lane c.requires.within c.set.ensures.tree c.set.ensures.room c.set.ensures.marked in
    shown_again l l.closed c.set.new.self c.front-before.result c.front-after.result c.args.fronts.now c.show.new.fronts c.show-2.new.fronts c.requires.lane lane c.requires.shown c.front-before.ensures.front c.show.ensures.shown c.front-after.ensures.front c.show-2.ensures.shown
