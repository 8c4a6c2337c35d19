-- Cells that are all near, or none of them.
use Rattle.std.proofs.Common.{◌≡◌, ◌<◌, [], Option, Some, None, length, ap, arith}
use Rattle.std.specs.Global.{Box}
use Rattle.code_table.specs.Cells.{CodedStore}
use Rattle.code_table.specs.ColumnsView.{ColumnsView}
use Rattle.object_store.specs.Stock.{IsApart, whole_items}

-- where there is room at hand, there are no others
pub with_room : (near : ColumnsView) (far : Option (Box ColumnsView)) (P : Option (Box ColumnsView) → Type 0) → IsApart near far → 0 < near.free → P None → P far
with_room near None P h some p = p
with_room near (Some far) P h some p = absurd (omega (arith, some, h.1))

-- where some cell is near, there are no others
pub with_near : (near : ColumnsView) (far : Option (Box ColumnsView)) (P : Option (Box ColumnsView) → Type 0) → IsApart near far → 0 < length near.items → P None → P far
with_near near None P h some p = p
with_near near (Some far) P h some p = absurd (omega (arith, some, ap (λ (s : CodedStore). length s) h.0))

-- what is taken out leaves nothing near
pub left_apart : (near : ColumnsView) (far : Option (Box ColumnsView)) → IsApart near far → whole_items near.items far ≡ [] → near.free ≡ 0 → (near.items ≡ []) × (near.free ≡ 0)
left_apart near None h items room = (items, room)
left_apart near (Some far) h items room = h
