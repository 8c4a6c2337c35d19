-- No place lies past the end of its store.
use Rattle.std.specs.Prelude.{◌≡◌, ℕ, ◌<◌, List, [], ◌∷◌, ◌++◌, length}
use Rattle.asp_model.specs.Names.{Name, FutureShape}
use Rattle.asp_model.specs.Term.{Tree, own_locations, locations, locations_below}
use Rattle.asp_model.specs.Split.{Context, Redex, Split, Splits, split}
use Rattle.asp_model.specs.Split as terms
use Rattle.asp_model.specs.Store.{CellShape, Store, reached}
use Rattle.asp_model.specs.Parcel.{ParcelShape, parcel_of}
use Rattle.asp_model.specs.Configuration.{RequestShape, Activity, Configuration}
use Rattle.law_steps.specs.Reached.{IsReached, IsAt, HasValue}
use Rattle.law_steps.specs.Kept.{Stands}
use Rattle.law_steps.specs.Linked.{Each}

-- each is below k
abbrev pub AreBelow : ℕ → List ℕ → Type 0
AreBelow k = Each (λ i. i < k)

-- all that is reached from these cells is below k
abbrev pub CellsBelow : ℕ → List CellShape → Type 0
CellsBelow k = Each (λ c. AreBelow k (reached c))

-- what is reached from a store's cells is in the store
abbrev pub IsClosedStore : Store → Type 0
IsClosedStore s = CellsBelow (length s) s

pub record IsClosedParcel (p : ParcelShape) : Type 0 where
  pub cells : IsClosedStore p.cells
  pub roots : AreBelow (length p.cells) p.roots

-- a parcel with one root, which is its first cell
pub record IsClosedValue (p : ParcelShape) : Type 0 where
  pub closed : IsClosedParcel p
  pub root : p.roots ≡ 0 ∷ []

-- the places round the hole of a context, and those of a redex
abbrev pub places_round : Context → List ℕ
places_round x = own_locations x.head ++ (x.before ++ locations_below x.behind)

abbrev pub places_of : Redex → List ℕ
places_of r = own_locations r.head ++ (r.places ++ locations_below r.behind)

abbrev pub ContextsBelow : ℕ → List Context → Type 0
ContextsBelow k = Each (λ x. AreBelow k (places_round x))

-- what a term splits into has no place past the end
abbrev pub SplitBelow : ℕ → Split → Type 0
SplitBelow k (terms.Stands place) = place < k
SplitBelow k (Splits contexts redex) = ContextsBelow k contexts × AreBelow k (places_of redex)

pub record IsClosedActivity (a : Activity) : Type 0 where
  pub term : AreBelow (length a.store) (locations a.term)
  pub services : Each (λ v. ContextsBelow (length a.store) v.contexts) a.services
  pub store : IsClosedStore a.store
  pub active : a.active < length a.store

pub record IsClosed (c : Configuration) : Type 0 where
  pub activities : (n : Name) (a : Activity) → IsAt c n a → IsClosedActivity a
  pub arguments : (m : Name) (k : ℕ) (r : RequestShape)
      → Stands c m k r → IsClosedParcel r.arguments
  pub values : (f : FutureShape) (p : ParcelShape) → HasValue c f p → IsClosedValue p

-- where the program has no places of its own, all that it reaches is closed
abbrev pub ReachedAreClosed : Type 0
ReachedAreClosed = (program : Tree) (c : Configuration)
    → locations program ≡ [] → IsReached program c → IsClosed c

-- what a closed activity's term splits into has no place past the end of its store
abbrev pub SplitsAreBelow : Type 0
SplitsAreBelow = (a : Activity) → IsClosedActivity a → SplitBelow (length a.store) (split a.term)

-- a deep copy of what places of a closed store reach is closed
abbrev pub CopiesAreClosed : Type 0
CopiesAreClosed = (s : Store) (roots : List ℕ)
    → IsClosedStore s → AreBelow (length s) roots → IsClosedParcel (parcel_of s roots)

-- and the copy of one place is a value
abbrev pub ValuesAreClosed : Type 0
ValuesAreClosed = (s : Store) (place : ℕ)
    → IsClosedStore s → place < length s → IsClosedValue (parcel_of s (place ∷ []))
