-- What an index says of each future.
use Rattle.std.specs.Prelude.{◌≡◌, ℕ, Bool, true, false, not, ◌&&◌, List, [], Option, Some, None}
use Rattle.indexmap.specs.IndexMap.{get}
use Rattle.asp_model.specs.declared.name.FutureName.{FutureName}
use Rattle.asp_model.specs.contracts.name.FutureNamePartialEq.TheImpl as equality
use Rattle.asp_model.specs.Shapes.{future_shape}
use Rattle.code_table.specs.Cells.{CodedCell, CodedStore}
use Rattle.object_store.specs.Holders.{holders, is_future}
use Rattle.object_store.specs.Places.{places_of}
use Rattle.object_store.specs.declared.index.Index.{Index}
use Rattle.object_store.specs.declared.places.Places.{Places}

abbrev pub is_same : FutureName → FutureName → Bool
is_same = equality.ghosts.eq

abbrev pub or_none : Option Places → List ℕ
or_none None = []
or_none (Some places) = places_of places

abbrev pub places_in : Index → FutureName → List ℕ
places_in index f = or_none (get is_same index.held f)

abbrev pub IsAlike : (old new : Index) → Type 0
IsAlike old new = (f : FutureName) → places_in new f ≡ places_in old f

-- the places of some futures change so, and those of the others stay
abbrev pub ChangesWhere : (FutureName → Bool) → (List ℕ → List ℕ) → (old new : Index) → Type 0
ChangesWhere test change old new = (f : FutureName) → places_in new f ≡ elim (test f) [ true ↦ change (places_in old f) | false ↦ places_in old f ]

abbrev pub Changes : FutureName → (List ℕ → List ℕ) → (old new : Index) → Type 0
Changes f = ChangesWhere (is_same f)

-- the cell is the future
abbrev pub is_in_cell : CodedCell → FutureName → Bool
is_in_cell c f = is_future (future_shape f) c

-- the cell is the future, and the one that takes its place is not
abbrev pub is_given_up : CodedCell → CodedCell → FutureName → Bool
is_given_up c d f = is_in_cell c f && not (is_in_cell d f)

-- the index says where the store holds each future
abbrev pub IsIndexed : Index → CodedStore → Type 0
IsIndexed index store = (f : FutureName) → places_in index f ≡ holders (future_shape f) store
