-- What contracts see of cells that stores share.
use Rattle.code_table.specs.Cells.{CodedStore}

-- the cells, in order
pub record AttachedView : Type 0 where
  pub items : CodedStore
