-- What every store keeps.
use Rattle.std.specs.Prelude.{◌≤◌}
use Rattle.object_store.specs.declared.store.Store.TheInside.{Inside}
use Rattle.object_store.specs.Finder.{IsFitting}
use Rattle.object_store.specs.View.{StoreView}

abbrev pub view_of : Inside → StoreView
view_of s = record { cells = s.cells.items; spare = s.spare }

-- an index fits the cells, and there is room for as many cells as are spare
pub record IsStored (s : Inside) : Type 0 where
  pub fitting : IsFitting s.finder s.cells.items
  pub room : s.spare ≤ s.cells.free
