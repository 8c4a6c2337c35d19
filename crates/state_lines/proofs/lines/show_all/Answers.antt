use Rattle.std.proofs.Common.{◌-◌, ◌<◌, length, subst, arith}
use Rattle.state_lines.specs.declared.below.Due.{Due}
use Rattle.run_ends.specs.Spots.{IsSpot, size_of}
use Rattle.state_lines.specs.Walks.{AreSpots, shown_after}
use Rattle.state_lines.proofs.WalkLemmas.{all_front, all_last, still_more}
use Rattle.state_lines.proofs.lines.show_all.Goals as goal

pub show-requires-clause-walk : goal.show-requires-clause-walk
show-requires-clause-walk c =
    let walk = c.loop-due.invariant.walk in
    let size = size_of c.loop-due.walk.entered in
    record {
      numbered = walk.numbered;
      values = walk.values;
      paths = walk.paths;
      due = all_front (λ (d : Due). IsSpot size d.spot) c.pop.new.self.items c.in-Some.due (subst (AreSpots size) c.in-Some.ensures.items walk.due);
    }

pub show-requires-clause-spot : goal.show-requires-clause-spot
show-requires-clause-spot c =
    let size = size_of c.loop-due.walk.entered in
    all_last (λ (d : Due). IsSpot size d.spot) c.pop.new.self.items c.in-Some.due (subst (AreSpots size) c.in-Some.ensures.items c.loop-due.invariant.walk.due)

pub loop-due-smaller : goal.loop-due-smaller
loop-due-smaller c =
    let whole = shown_after c.args.state.now c.args.walk.now c.args.walk.now.due.items in
    let more = still_more c.args.state.now c.loop-due.walk c.pop.new.self.items c.in-Some.due whole c.in-Some.ensures.items c.loop-due.invariant.shown in
    let fewer : length whole.lines - length c.show.new.walk.lines.items < length whole.lines - length c.loop-due.walk.lines.items = omega (arith, more, c.in_ok-show.ensures.shown.line) in
    fewer
