-- The labels and names that stand in a node, with the places that the node's mark has for them.
use Rattle.std.specs.Prelude.{ℕ, List, [], ◌∷◌}
use Rattle.asp_model.specs.Names.{Text}

pub record Placed : Type 0 where
  pub name : Text
  pub place : ℕ

-- the first place; where there is none, the place of the node
abbrev pub place_or : ℕ → List ℕ → ℕ
place_or at [] = at
place_or at (p ∷ ps) = p

abbrev pub later : List ℕ → List ℕ
later [] = []
later (p ∷ ps) = ps

-- names with their places, for a node at a place
abbrev pub placed : ℕ → List Text → List ℕ → List Placed
placed at [] ps = []
placed at (x ∷ xs) ps = record { name = x; place = place_or at ps } ∷ placed at xs (later ps)

-- the places that follow those of the names
abbrev pub behind : List Text → List ℕ → List ℕ
behind [] ps = ps
behind (x ∷ xs) ps = behind xs (later ps)
