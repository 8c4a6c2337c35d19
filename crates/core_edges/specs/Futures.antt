-- The future that a cell holds.
use Rattle.std.specs.Prelude.{Option, Some, None}
use Rattle.asp_model.specs.Names.{FutureShape}
use Rattle.code_table.specs.Cells.{CodedCell, Future}

-- whatever code its objects are of
abbrev pub future_of : CodedCell → Option FutureShape
future_of (Future f) = Some f
future_of c = None
