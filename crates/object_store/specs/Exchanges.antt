-- A cell in the place of another, as it is noted.
use Rattle.std.specs.Prelude.{ℕ}
use Rattle.code_table.specs.Cells.{CodedCell}
use Rattle.object_store.specs.declared.finder.Finder.{Finder}
use Rattle.object_store.specs.Finder.{Follows}
use Rattle.object_store.specs.Index.{ChangesWhere, is_given_up, is_in_cell}
use Rattle.object_store.specs.Places.{with_place, without_place}

-- the place is noted of the cell that comes there, and forgotten of the one that was there
pub record Exchanges (was is : CodedCell) (p : ℕ) (old new : Finder) : Type 0 where
  pub between : Finder
  pub noted : Follows (ChangesWhere (is_in_cell is) (with_place p)) old between
  pub forgotten : Follows (ChangesWhere (is_given_up was is) (without_place p)) between new
