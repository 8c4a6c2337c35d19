-- Places in ascending order.
use Rattle.std.specs.Prelude.{ℕ, List, [], ◌∷◌}
use Rattle.std.specs.BTreeMap.{is_at}
use Rattle.std.specs.BTreeSet.{insert_key}
use Rattle.std.specs.Set.{remove_key}
use Rattle.std.specs.Ordering.{nat_cmp}
use Rattle.object_store.specs.declared.places.Places.{Places}
use Rattle.object_store.specs.declared.places.Places.TheVariants as places

-- places in ascending order, with one more or without one
abbrev pub with_place : ℕ → List ℕ → List ℕ
with_place p places = insert_key nat_cmp places p

abbrev pub without_place : ℕ → List ℕ → List ℕ
without_place p places = remove_key (is_at (nat_cmp p)) places

-- the places of a future, whichever way they are kept
abbrev pub places_of : Places → List ℕ
places_of places.Nowhere = []
places_of (places.At p) = p ∷ []
places_of (places.Several s) = s.keys
