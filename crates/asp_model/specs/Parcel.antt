-- Deep copies: what passes between two activities, and what a future holds.
use Rattle.std.specs.Prelude.{ℕ, zero, suc, ◌+◌, ◌==◌, Bool, true, false, List, [], ◌∷◌, ◌++◌, length, map}
use Rattle.asp_model.specs.Store.{CellShape, Store, cell, with_cell, moved_cell, reached}

-- cells that hold each other's numbers, and the numbers of the roots
pub record ParcelShape : Type 0 where
  pub cells : List CellShape
  pub roots : List ℕ

-- a place stands among these
abbrev pub has_place : ℕ → List ℕ → Bool
has_place n [] = false
has_place n (x ∷ xs) = elim (n == x) [ true ↦ true | false ↦ has_place n xs ]

-- goes through the places to visit, up to the first one that was not seen; `next` takes over there
abbrev pub walk : (List ℕ → List ℕ → List ℕ) → Store → List ℕ → List ℕ → List ℕ
walk next s [] seen = seen
walk next s (p ∷ ps) seen = elim (has_place p seen) [
  | true ↦ walk next s ps seen
  | false ↦ next (reached (cell s p) ++ ps) (seen ++ p ∷ [])
]

-- a depth-first visit that comes to at most n more places
abbrev pub visit : ℕ → Store → List ℕ → List ℕ → List ℕ
visit zero s todo seen = seen
visit (suc n) s todo seen = walk (visit n s) s todo seen

-- what is reached from the roots: a cell before what it reaches, each at its first visit
abbrev pub visit_order : Store → List ℕ → List ℕ
visit_order s roots = visit (length s) s roots []

-- a place's number in this order
abbrev pub number_in : List ℕ → ℕ → ℕ
number_in [] n = 0
number_in (x ∷ xs) n = elim (n == x) [ true ↦ 0 | false ↦ suc (number_in xs n) ]

-- the cells at these places, with their numbers in this order for places
abbrev pub numbered : Store → List ℕ → List ℕ → ParcelShape
numbered s order roots = record {
  cells = map (λ p. moved_cell (number_in order) (cell s p)) order;
  roots = map (number_in order) roots;
}

-- the deep copy of what these roots reach
abbrev pub parcel_of : Store → List ℕ → ParcelShape
parcel_of s roots = numbered s (visit_order s roots) roots

-- the store with a parcel's cells behind its own
abbrev pub unpack : Store → ParcelShape → Store
unpack s p = s ++ map (moved_cell (λ n. n + length s)) p.cells

-- where the parcel's roots then stand
abbrev pub unpacked_roots : Store → ParcelShape → List ℕ
unpacked_roots s p = map (λ n. n + length s) p.roots

-- where a parcel's number goes that is unpacked at a place: the root's to that place
abbrev pub place_at : (size place : ℕ) → ℕ → ℕ
place_at size place zero = place
place_at size place (suc n) = n + size

-- the first cell in place of another, the rest behind the store
abbrev pub with_cells_at : Store → ℕ → List CellShape → Store
with_cells_at s place [] = s
with_cells_at s place (c ∷ cs) = with_cell s place c ++ cs

-- the store with a parcel's root in place of a cell, and its other cells behind the store's own
abbrev pub unpack_at : Store → ℕ → ParcelShape → Store
unpack_at s place p = with_cells_at s place (map (moved_cell (place_at (length s) place)) p.cells)
