use Rattle.std.proofs.Common.{ap}
use Rattle.code_table.specs.Cells.{held_future}
use Rattle.code_table.specs.Shapes.{cell_shape}
use Rattle.step_rows.proofs.groups.group_of.Goals as goal

pub returns-in-Future : goal.returns-in-Future
returns-in-Future c = record { seen = λ k. (held_future c.in-Future.field-0.now, ap (cell_shape k) c.in-Future.is) }
