-- A tree over places that says where places are marked.
use Rattle.std.specs.Prelude.{◌≡◌, ℕ, ◌+◌, ◌*◌, ◌/◌, ◌^◌, ◌<◌, ◌≤◌, ◌==◌, ◌||◌, ◌&&◌, Bool, true, false, List, length, slice_index_or}
use Rattle.core_sets.specs.declared.marks.Marks.{Marks}

-- whether a place at or below a node is marked
abbrev pub node_at : List Bool → ℕ → Bool
node_at nodes n = slice_index_or nodes n false

-- how many places there are
abbrev pub room : Marks → ℕ
room m = length m.nodes.items / 2

abbrev pub is_marked : Marks → ℕ → Bool
is_marked m place = node_at m.nodes.items (room m + place)

-- a node says what its children say
abbrev pub AgreesAt : List Bool → ℕ → Type 0
AgreesAt nodes n = node_at nodes n ≡ (node_at nodes (2 * n) || node_at nodes (2 * n + 1))

pub record IsTree (m : Marks) : Type 0 where
  pub whole : length m.nodes.items ≡ 2 * room m
  pub power : 0 < room m → room m ≡ 2 ^ m.height
  pub nodes : (n : ℕ) → 1 ≤ n → n < room m → AgreesAt m.nodes.items n

abbrev pub SameMarks : (old new : Marks) → Type 0
SameMarks old new = (p : ℕ) → is_marked new p ≡ is_marked old p

-- one place is marked so, and the others stay
abbrev pub MarkedSo : ℕ → Bool → (old new : Marks) → Type 0
MarkedSo place mark old new = (p : ℕ) → is_marked new p ≡ elim (p == place) [ true ↦ mark | false ↦ is_marked old p ]

-- one place is marked if so, and the others stay
abbrev pub MarkedIf : Bool → ℕ → (old new : Marks) → Type 0
MarkedIf so place old new = (p : ℕ) → is_marked new p ≡ (is_marked old p || (so && p == place))
