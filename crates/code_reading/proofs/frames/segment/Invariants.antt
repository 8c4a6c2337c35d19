use Rattle.std.proofs.Common.{◌≤◌, List, length, map, reverse}
use Rattle.asp_model.specs.Shapes.{tree_of}
use Rattle.step_machine.specs.Items.{Item}
use Rattle.step_machine.specs.Stacks.{IsStack}
use Rattle.code_reading.proofs.WalkLemmas.{Walked}
use Rattle.code_reading.proofs.frames.segment.Given as goal

abbrev pub invariant-loop-frame : goal.invariant-loop-frame
invariant-loop-frame l = record {
  shorter : length l.cursor.frames.now ≤ length l.fn.start.frames.now;
  walked : (items : List Item) → IsStack l.code (reverse l.fn.start.frames.now) l.fn.start.env.now l.fn.start.operands.now items
      → Walked l.code items (map tree_of l.fn.first.items) (map tree_of l.terms.items) l.cursor.frames.now l.cursor.env.now l.cursor.operands.now;
}

abbrev pub decreases-loop-frame : goal.decreases-loop-frame
decreases-loop-frame l = length l.cursor.frames.now
