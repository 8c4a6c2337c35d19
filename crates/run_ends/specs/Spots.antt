-- Places as pairs of numbers.
use Rattle.std.specs.Prelude.{◌≡◌, ℕ, zero, suc, ◌<◌, ◌≤◌, false, Bool, List, [], ◌∷◌, ◌++◌, Some, length, map, slice_get, get_or, ◌⊎◌}
use Rattle.std.specs.Borrow.{Bor}
use Rattle.std.specs.List.{list_any}
use Rattle.code_table.specs.declared.cells.Parcel.{Parcel}
use Rattle.code_table.specs.Shapes.{parcel_shape}
use Rattle.def_paths.specs.Places.{Place, In_store, Side, inner, entered, child_by}
use Rattle.run_ends.specs.declared.entered.Spot.{Spot}
use Rattle.run_ends.specs.declared.entered.Entered.{Entered}
use Rattle.run_ends.specs.contracts.entered.SpotPartialEq.TheImpl as equality

abbrev pub is_spot : Spot → Spot → Bool
is_spot = equality.ghosts.eq

-- Places of spots

abbrev pub place_at : List Place → ℕ → Place
place_at ps k = get_or ps k (In_store 0)

abbrev pub no_spot : Spot
no_spot = record { home = 0; cell = 0 }

abbrev pub spot_at : List Spot → ℕ → Spot
spot_at ss k = get_or ss k no_spot

-- a cell of the store, or of the value that is entered at the place of the number below
abbrev pub numbered_place : List Place → (home cell : ℕ) → Place
numbered_place ps zero c = In_store c
numbered_place ps (suc k) c = inner (place_at ps k) c

abbrev pub spot_place : List Place → Spot → Place
spot_place ps s = numbered_place ps s.home s.cell

-- the places of spots, each by those before it
abbrev pub places_from : List Place → List Spot → List Place
places_from ps [] = ps
places_from ps (s ∷ ss) = places_from (ps ++ spot_place ps s ∷ []) ss

unfoldable pub places_of : List Spot → List Place
places_of ss = places_from [] ss

abbrev pub places_in : Entered → List Place
places_in e = places_of e.spots.keys

abbrev pub place_of : Entered → Spot → Place
place_of e s = spot_place (places_in e) s

-- how many values are entered
abbrev pub size_of : Entered → ℕ
size_of e = length e.spots.keys

-- What is kept

-- its value is among the first n, and it is no root of a value
pub record IsSpot (n : ℕ) (s : Spot) : Type 0 where
  pub within : s.home ≤ n
  pub inside : 0 < s.home → 0 < s.cell

-- spots by their numbers, each place once, with as many values
pub record IsNumbered (e : Entered) : Type 0 where
  pub count : length e.values.items ≡ size_of e
  pub spots : (k : ℕ) → k < size_of e → IsSpot (size_of e) (spot_at e.spots.keys k)
  pub places : (k : ℕ) → k < size_of e → place_at (places_in e) k ≡ place_of e (spot_at e.spots.keys k)
  pub apart : (j k : ℕ) → j < size_of e → k < size_of e → place_at (places_in e) j ≡ place_at (places_in e) k → j ≡ k

-- what is entered at each is its value
abbrev pub HasValues : Side → Entered → Type 0
HasValues a e = (k : ℕ) → k < size_of e → entered a (place_at (places_in e) k) ≡ slice_get (map (λ v. parcel_shape v.now) e.values.items) k

-- How it changes

abbrev pub Stays : (old new : Entered) → Type 0
Stays old new = (new.spots.keys ≡ old.spots.keys) × (new.values.items ≡ old.values.items)

-- a spot that was not there, with its value
pub record Adds (s : Spot) (v : Bor Parcel) (old new : Entered) : Type 0 where
  pub absent : list_any (is_spot s) old.spots.keys ≡ false
  pub spots : new.spots.keys ≡ old.spots.keys ++ s ∷ []
  pub values : new.values.items ≡ old.values.items ++ v ∷ []

-- the spot has this number then
pub record EntersAt (s : Spot) (v : Bor Parcel) (old new : Entered) (k : ℕ) : Type 0 where
  pub number : slice_get new.spots.keys k ≡ Some s
  pub change : Stays old new ⊎ Adds s v old new

-- numbers stay
pub record Grows (old new : Entered) : Type 0 where
  pub more : List Spot
  pub spots : new.spots.keys ≡ old.spots.keys ++ more

-- where the children of a place stand
abbrev pub IsHome : Side → Place → Entered → ℕ → Type 0
IsHome a p e home = (c : ℕ) → child_by (entered a p) p c ≡ numbered_place (places_in e) home c
