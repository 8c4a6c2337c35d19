-- Cells that reach no other: also objects that hold no places.
use Rattle.std.specs.Prelude.{◌≡◌, ◌<◌, ℕ, List, [], ◌∷◌, length}
use Rattle.code_table.specs.Cells as coded
use Rattle.code_table.specs.Cells.{CodedCell, CodedStore, cell_at}

abbrev pub IsLeaf : CodedCell → Type 0
IsLeaf (coded.Object k ns) = ns ≡ []
IsLeaf (coded.Group ns) = ⊥
IsLeaf c = Unit {0}

-- the cell of the one root, which reaches no other
abbrev pub IsLoneLeaf : CodedStore → List ℕ → CodedCell → Type 0
IsLoneLeaf s [] c = ⊥
IsLoneLeaf s (p ∷ []) c = (p < length s) × (c ≡ cell_at s p) × IsLeaf c
IsLoneLeaf s (p ∷ q ∷ ps) c = ⊥
