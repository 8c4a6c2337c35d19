use Rattle.std.proofs.Common.{◌≡◌, ◌-◌, length}
use Rattle.state_lines.specs.Walks.{IsWalk, shown_after}
use Rattle.state_lines.proofs.lines.show_all.Given as goal

abbrev pub invariant-loop-due : goal.invariant-loop-due
invariant-loop-due l = record {
  walk : IsWalk l.state l.walk;
  shown : shown_after l.state l.walk l.walk.due.items ≡ shown_after l.state l.fn.walk l.fn.walk.due.items;
}

abbrev pub decreases-loop-due : goal.decreases-loop-due
decreases-loop-due l = length (shown_after l.state l.fn.walk l.fn.walk.due.items).lines - length l.walk.lines.items
