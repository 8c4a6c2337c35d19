-- The cells of a store: all near, or none of them.
use Rattle.std.specs.Prelude.{◌≡◌, ℕ, [], Option, Some, None}
use Rattle.std.specs.Global.{Box}
use Rattle.code_table.specs.Cells.{CodedStore}
use Rattle.code_table.specs.ColumnsView.{ColumnsView}
use Rattle.object_store.specs.StockView.{StockView}
use Rattle.object_store.specs.declared.stock.Stock.TheInside.{Inside}

-- the cells that are near, where there are no others
abbrev pub whole_items : CodedStore → Option (Box ColumnsView) → CodedStore
whole_items near None = near
whole_items near (Some far) = far.value.items

abbrev pub whole_free : ℕ → Option (Box ColumnsView) → ℕ
whole_free near None = near
whole_free near (Some far) = far.value.free

abbrev pub stock_view : Inside → StockView
stock_view s =
    record { items = whole_items s.near.items s.far; free = whole_free s.near.free s.far; at_hand = s.near.free }

-- where there are others, none is near, and there is no room for one
abbrev pub IsApart : ColumnsView → Option (Box ColumnsView) → Type 0
IsApart near None = Unit {0}
IsApart near (Some far) = (near.items ≡ []) × (near.free ≡ 0)

abbrev pub IsStock : Inside → Type 0
IsStock s = IsApart s.near s.far
