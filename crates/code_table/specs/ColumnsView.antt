-- What contracts see of cells in columns.
use Rattle.std.specs.Prelude.{ℕ}
use Rattle.code_table.specs.Cells.{CodedStore}

-- the cells, and for how many more there is room
pub record ColumnsView : Type 0 where
  pub items : CodedStore
  pub free : ℕ
