-- Cells that stand in parts.
use Rattle.std.specs.Prelude.{◌≡◌, ◌<◌, ◌≤◌, ◌+◌, ◌^◌, ℕ, suc, List, [], ◌∷◌, ◌++◌, length, get_or}
use Rattle.code_table.specs.Cells.{CodedStore}
use Rattle.code_table.specs.ColumnsView.{ColumnsView}
use Rattle.object_store.specs.declared.parts.Part.{Part}
use Rattle.object_store.specs.declared.parted.Parted.TheInside.{Inside}

-- the cells of a part: its own, and behind them the shared ones
abbrev pub part_cells : Part → CodedStore
part_cells p = p.own.items ++ p.attached.items

abbrev pub parts_cells : List Part → CodedStore
parts_cells [] = []
parts_cells (p ∷ ps) = part_cells p ++ parts_cells ps

-- the parts begin one behind the other, the first of them here, and none is empty
abbrev pub ArePlaced : ℕ → List Part → Type 0
ArePlaced n [] = Unit {0}
ArePlaced n (p ∷ ps) = (p.start ≡ n) × (0 < length (part_cells p)) × ArePlaced (n + length (part_cells p)) ps

-- the number of the part that has a place
pub record HasPlace (ps : List Part) (at k : ℕ) : Type 0 where
  pub within : k < length ps
  pub begun : (d : Part) → (get_or ps k d).start ≤ at
  pub ended : (d : Part) → suc k < length ps → at < (get_or ps (suc k) d).start

-- the cells of all parts, then the newest ones
abbrev pub parted_view : Inside → ColumnsView
parted_view s = record { items = parts_cells s.parts.items ++ s.columns.items; free = s.columns.free }

pub record IsParted (s : Inside) : Type 0 where
  pub placed : ArePlaced 0 s.parts.items
  pub first : s.first ≡ length (parts_cells s.parts.items)
  pub bound : s.first ≤ 2 ^ 63
