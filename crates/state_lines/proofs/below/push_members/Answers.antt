use Rattle.std.proofs.Common.{◌≡◌, ◌-◌, suc, drop, get_or, arith}
use Rattle.state_lines.specs.Below.{members_below, place_in}
use Rattle.state_lines.specs.Walks.{all_pending, pending_at}
use Rattle.state_lines.proofs.BelowLemmas.{member_before, one_before}
use Rattle.state_lines.proofs.below.push_members.Goals as goal

pub loop-left-preserved : goal.loop-left-preserved
loop-left-preserved c =
    let parent = c.args.parent in
    let members = c.args.members.now in
    let path = parent.path.now in
    let at = place_in parent in
    let left = c.loop-left.left in
    let next : suc (left - 1) ≡ left = omega arith in
    record {
      within = omega arith;
      pending = one_before
          (all_pending parent.entered.now c.args.due.now.items)
          (all_pending parent.entered.now c.loop-left.due.items)
          (all_pending parent.entered.now c.push_child.new.due.items)
          (pending_at parent.depth)
          (members_below path at (left - 1) (drop (left - 1) members))
          (members_below path at left (drop left members))
          (c.in_ok-path.path, at (get_or members (left - 1) 0))
          c.loop-left.invariant.pending
          c.in_ok-push_child.ensures.pending
          (member_before path at members left (left - 1) c.in_ok-path.path next (omega arith) c.in_ok-path.ensures.path);
      spots = λ h. c.in_ok-push_child.ensures.spots (c.loop-left.invariant.spots h);
    }
