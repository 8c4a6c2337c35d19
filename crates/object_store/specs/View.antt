-- What contracts see of a store.
use Rattle.std.specs.Prelude.{ℕ}
use Rattle.code_table.specs.Cells.{CodedStore}

-- the cells, and how many more may be added without memory
pub record StoreView : Type 0 where
  pub cells : CodedStore
  pub spare : ℕ
