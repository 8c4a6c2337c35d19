-- What contracts see of the cells of a store, its own and those that it shares.
use Rattle.std.specs.Prelude.{ℕ}
use Rattle.code_table.specs.Cells.{CodedStore}

-- the cells, for how many more there is room, and how many of these need no other look
pub record StockView : Type 0 where
  pub items : CodedStore
  pub free : ℕ
  pub at_hand : ℕ
