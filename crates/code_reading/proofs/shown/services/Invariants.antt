use Rattle.std.proofs.Common.{◌≡◌, List, length, reverse}
use Rattle.step_machine.specs.Items.{Item, futures_of}
use Rattle.step_machine.specs.Stacks.{IsStack}
use Rattle.step_machine.specs.Views.{IsAlone}
use Rattle.code_reading.proofs.WalkLemmas.{Found, seen_futures}
use Rattle.code_reading.proofs.shown.services.Given as goal

abbrev pub invariant-loop-frame : goal.invariant-loop-frame
invariant-loop-frame l =
    (items : List Item) → IsAlone (reverse l.fn.start.frames.now) → IsStack l.code (reverse l.fn.start.frames.now) l.fn.start.env.now l.fn.start.operands.now items → seen_futures l.fn.held ≡ futures_of items
    → Found l.code items l.found.items l.futures l.cursor.frames.now l.cursor.env.now l.cursor.operands.now

abbrev pub decreases-loop-frame : goal.decreases-loop-frame
decreases-loop-frame l = length l.cursor.frames.now
