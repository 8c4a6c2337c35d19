-- Cells that a checkpoint keeps, if they are proper.
use Rattle.std.specs.Prelude.{List, map}
use Rattle.law_programs.specs.Proper.{IsProperCell}
use Rattle.law_steps.specs.Linked.{Each}
use Rattle.checkpoint_reading.specs.declared.parts.CellText.{CellText}
use Rattle.checkpoint_reading.specs.Cells.{cell_shape}

abbrev pub AreProper : List CellText → Type 0
AreProper cells = Each IsProperCell (map cell_shape cells)
