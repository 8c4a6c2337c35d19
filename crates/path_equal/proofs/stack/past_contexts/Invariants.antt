use Rattle.std.proofs.Common.{List, length, reverse}
use Rattle.step_machine.specs.Items.{Item}
use Rattle.step_machine.specs.Stacks.{IsStack}
use Rattle.path_equal.proofs.StackLemmas.{Walked}
use Rattle.path_equal.proofs.stack.past_contexts.Given as goal

abbrev pub invariant-loop-frame : goal.invariant-loop-frame
invariant-loop-frame l = (items : List Item) → IsStack l.code (reverse l.fn.from.frames.now) l.fn.from.env.now l.fn.from.operands.now items
    → Walked l.code l.part items l.fn.start l.search l.cursor.frames.now l.cursor.env.now l.cursor.operands.now

abbrev pub decreases-loop-frame : goal.decreases-loop-frame
decreases-loop-frame l = length l.cursor.frames.now
