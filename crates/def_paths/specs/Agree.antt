-- When configurations agree: they are equal but for futures that are filled and read, and for the numbers of cells.
use Rattle.std.specs.Prelude.{◌≡◌, ℕ, List, [], ◌∷◌, ◌++◌, Option, Some, None, map}
use Rattle.std.specs.List.{flat_map}
use Rattle.std.specs.FinMap.{find}
use Rattle.asp_model.specs.Names.{Name, FutureShape, name_cmp, future_cmp}
use Rattle.asp_model.specs.Term.{own_locations, locations, locations_below, moved_head, moved_below, blank}
use Rattle.asp_model.specs.Split.{Context}
use Rattle.asp_model.specs.Parcel.{ParcelShape}
use Rattle.asp_model.specs.Chase.{Chase, chase}
use Rattle.asp_model.specs.Configuration.{RequestShape, ServiceShape, Activity, Configuration, requests_of, log_of}
use Rattle.def_paths.specs.Places.{side_by, AreReadAlike}

-- the items of two lists are related, one by one
pub data Pairs {A B : Type 0} (R : A → B → Type 0) : List A → List B → Type 0 where
  no_pair : Pairs R [] []
  pair : {x : A} {y : B} {xs : List A} {ys : List B} → R x y → Pairs R xs ys → Pairs R (x ∷ xs) (y ∷ ys)

-- both are there, and related, or neither is
pub data MayBoth {A B : Type 0} (R : A → B → Type 0) : Option A → Option B → Type 0 where
  neither : MayBoth R None None
  both : {x : A} {y : B} → R x y → MayBoth R (Some x) (Some y)

-- a context with each location set to 0
abbrev pub blank_context : Context → Context
blank_context x = record { head = moved_head (λ n. 0) x.head; before = map (λ n. 0) x.before; behind = moved_below (λ n. 0) x.behind }

-- the locations of a context, in text order
abbrev pub places_round : Context → List ℕ
places_round x = own_locations x.head ++ (x.before ++ locations_below x.behind)

-- the term that waits, with each location set to 0
abbrev pub blank_service : ServiceShape → ServiceShape
blank_service v = record { contexts = map blank_context v.contexts; future = v.future }

-- the locations of a term that waits, context by context
abbrev pub places_in : ServiceShape → List ℕ
places_in v = flat_map places_round v.contexts

-- the active location, and each location of the term and of the services
abbrev pub roots_of : Activity → List ℕ
roots_of a = a.active ∷ (locations a.term ++ flat_map places_in a.services)

-- each side reads futures by its own chases
pub record ActivitiesAgree (k l : FutureShape → Chase) (a b : Activity) : Type 0 where
  pub term : blank a.term ≡ blank b.term
  pub services : map blank_service a.services ≡ map blank_service b.services
  pub reading : AreReadAlike (side_by k a.store) (side_by l b.store) (roots_of a) (roots_of b)
  pub present : a.present ≡ b.present
  pub sends : a.sends ≡ b.sends
  pub creations : a.creations ≡ b.creations
  pub reductions : a.reductions ≡ b.reductions
  pub lines : a.lines ≡ b.lines
  pub served : a.served ≡ b.served

-- every path from their roots finds the same
abbrev pub ParcelsAgree : (k l : FutureShape → Chase) → ParcelShape → ParcelShape → Type 0
ParcelsAgree k l p q = AreReadAlike (side_by k p.cells) (side_by l q.cells) p.roots q.roots

-- they are equal but for their arguments, which agree
pub record RequestsAgree (k l : FutureShape → Chase) (r s : RequestShape) : Type 0 where
  pub label : r.label ≡ s.label
  pub sender : r.sender ≡ s.sender
  pub future : r.future ≡ s.future
  pub arguments : ParcelsAgree k l r.arguments s.arguments

-- the same activities, requests and filled futures, and each agrees
pub record Agrees (c d : Configuration) : Type 0 where
  pub activities : (n : Name) → MayBoth (ActivitiesAgree (chase c.futures) (chase d.futures))
      (find name_cmp n c.activities) (find name_cmp n d.activities)
  pub requests : (n : Name) → Pairs (RequestsAgree (chase c.futures) (chase d.futures))
      (requests_of c n) (requests_of d n)
  pub logs : (n : Name) → log_of c n ≡ log_of d n
  pub values : (f : FutureShape) → MayBoth (ParcelsAgree (chase c.futures) (chase d.futures))
      (find future_cmp f c.futures) (find future_cmp f d.futures)
