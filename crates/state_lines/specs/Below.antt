-- What is below a place, by what is seen there.
use Rattle.std.specs.Prelude.{◌≡◌, ℕ, suc, List, [], ◌∷◌, ◌++◌, codes, map, reverse}
use Rattle.std.specs.Fmt.{decimal}
use Rattle.asp_model.specs.Names.{Text}
use Rattle.asp_model.specs.Store.{CellShape, reached}
use Rattle.def_paths.specs.Places.{Place}
use Rattle.def_paths.specs.StateLines.{Path, shown_below}
use Rattle.state_lines.specs.declared.below.Due.{Due}
use Rattle.state_lines.specs.declared.below.Parent.{Parent}
use Rattle.run_ends.specs.Spots.{numbered_place, places_in, size_of}
use Rattle.state_lines.specs.Walks.{AreSpots, all_pending, pending_at}

-- fields with their paths, where a place is this of its number
abbrev pub fields_below : Path → (ℕ → Place) → List Text → List ℕ → List (Path × Place)
fields_below path at [] ns = []
fields_below path at (l ∷ ls) [] = []
fields_below path at (l ∷ ls) (n ∷ ns) = (path ++ codes "." ++ l, at n) ∷ fields_below path at ls ns

-- members with their paths, from this number on
abbrev pub members_below : Path → (ℕ → Place) → ℕ → List ℕ → List (Path × Place)
members_below path at k [] = []
members_below path at k (n ∷ ns) = (path ++ codes "." ++ decimal k, at n) ∷ members_below path at (suc k) ns

abbrev pub cell_below : Path → (ℕ → Place) → CellShape → List (Path × Place)
cell_below path at c = shown_below path c (map at (reached c))

-- the place of a child
abbrev pub place_in : Parent → ℕ → Place
place_in p c = numbered_place (places_in p.entered.now) p.home c

-- these are due behind the others, the first last
abbrev pub Pushes : Parent → (old new : List Due) → List (Path × Place) → Type 0
Pushes p old new below = all_pending p.entered.now new ≡ all_pending p.entered.now old ++ reverse (map (pending_at p.depth) below)

abbrev pub StaySpots : Parent → (old new : List Due) → Type 0
StaySpots p old new = AreSpots (size_of p.entered.now) old → AreSpots (size_of p.entered.now) new
