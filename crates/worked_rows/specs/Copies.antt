-- Parcels of shared and cyclic cells, and their unpacking.
use Prim.Native.String.{String}
use Rattle.std.specs.Prelude.{◌≡◌, ℕ, pos, List, [], ◌∷◌, codes}
use Rattle.asp_model.specs.Names.{main_name}
use Rattle.asp_model.specs.Store.{Field, CellShape, Number, Object, Future, Store}
use Rattle.asp_model.specs.Parcel.{ParcelShape, parcel_of, unpack, unpacked_roots, unpack_at}

abbrev pub field_at : String → ℕ → Field
field_at l n = record { label = codes l; place = n }

-- a cell of an object without methods
abbrev pub fields : List Field → CellShape
fields xs = Object xs []

-- an object whose two fields are one object
abbrev pub shared_parcel : ParcelShape
shared_parcel = record {
  cells = fields (field_at "a" 1 ∷ field_at "b" 1 ∷ []) ∷ fields (field_at "v" 2 ∷ []) ∷ Number (pos 1) ∷ [];
  roots = 0 ∷ [];
}

-- a number, the object that has it, and the object that has this one twice
abbrev pub shared_store : Store
shared_store = Number (pos 1) ∷ fields (field_at "v" 0 ∷ []) ∷ fields (field_at "a" 1 ∷ field_at "b" 1 ∷ []) ∷ []

abbrev pub SharedIsPacked : Type 0
SharedIsPacked = parcel_of shared_store (2 ∷ []) ≡ shared_parcel

-- an object that is its own field, from two roots
abbrev pub CycleIsPacked : Type 0
CycleIsPacked = parcel_of (fields (field_at "x" 0 ∷ []) ∷ []) (0 ∷ 0 ∷ []) ≡ record { cells = fields (field_at "x" 0 ∷ []) ∷ []; roots = 0 ∷ 0 ∷ [] }

-- the future 0#1, and an object that has it
abbrev pub awaiting_store : Store
awaiting_store = Future (record { by = main_name; index = 1 }) ∷ fields (field_at "a" 0 ∷ []) ∷ []

-- the root comes to the future's place, and the others behind the store's cells
abbrev pub SharedIsUnpackedAt : Type 0
SharedIsUnpackedAt = unpack_at awaiting_store 0 shared_parcel
    ≡ fields (field_at "a" 2 ∷ field_at "b" 2 ∷ []) ∷ fields (field_at "a" 0 ∷ []) ∷ fields (field_at "v" 3 ∷ []) ∷ Number (pos 1) ∷ []

-- behind any two cells the root stands at 2, and the root of what comes next at 5
pub record SharedIsUnpacked (c d : CellShape) : Type 0 where
  pub root : unpacked_roots (c ∷ d ∷ []) shared_parcel ≡ 2 ∷ []
  pub cells : unpack (c ∷ d ∷ []) shared_parcel
      ≡ c ∷ d ∷ fields (field_at "a" 3 ∷ field_at "b" 3 ∷ []) ∷ fields (field_at "v" 4 ∷ []) ∷ Number (pos 1) ∷ []
  pub next : unpacked_roots (unpack (c ∷ d ∷ []) shared_parcel) (record { cells = Number (pos 1) ∷ []; roots = 0 ∷ [] }) ≡ 5 ∷ []

abbrev pub SharedIsUnpackedBehindAny : Type 0
SharedIsUnpackedBehindAny = (c d : CellShape) → SharedIsUnpacked c d
