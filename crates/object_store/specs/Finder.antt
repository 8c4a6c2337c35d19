-- How a store finds the cells that hold a future.
use Rattle.std.specs.Prelude.{⊤, ◌-◌, length, take}
use Rattle.code_table.specs.Cells.{CodedCell, CodedStore, cell_at}
use Rattle.object_store.specs.Index.{IsIndexed}
use Rattle.object_store.specs.declared.index.Index.{Index}
use Rattle.object_store.specs.declared.finder.Finder.{Finder}
use Rattle.object_store.specs.declared.finder.Finder.TheVariants as finders

abbrev pub but_last : CodedStore → CodedStore
but_last s = take (length s - 1) s

abbrev pub last_cell : CodedStore → CodedCell
last_cell s = cell_at s (length s - 1)

-- an index, where there is one, says where the store holds each future
abbrev pub IsFitting : Finder → CodedStore → Type 0
IsFitting finders.Look store = ⊤
IsFitting (finders.Indexed index) store = IsIndexed index.value store

-- an index, where there is one, came so from the one before
abbrev pub Follows : (Index → Index → Type 0) → (old new : Finder) → Type 0
Follows R old finders.Look = ⊤
Follows R finders.Look (finders.Indexed now) = ⊥
Follows R (finders.Indexed was) (finders.Indexed now) = R was.value now.value
