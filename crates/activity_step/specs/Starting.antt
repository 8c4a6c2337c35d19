-- Where an activity begins.
use Rattle.std.specs.Prelude.{ℕ, []}
use Rattle.step_machine.specs.declared.frames.Focus.TheVariants as focus
use Rattle.step_machine.specs.Standing.{View}

-- at a node, in no frames and an empty environment
abbrev pub start_view : ℕ → View
start_view number = record { frames = []; env = []; operands = []; futures = []; asked = []; base = 0; focus = focus.Node number 0 0 }
