-- Two sides that show the same, by a relation of their places.
use Rattle.std.specs.Prelude.{◌≡◌, ◌<◌, false, Some, length}
use Rattle.asp_model.specs.Names.{FutureShape}
use Rattle.asp_model.specs.Store.{cell}
use Rattle.asp_model.specs.Parcel.{ParcelShape}
use Rattle.asp_model.specs.Contraction.{is_future}
use Rattle.law_steps.specs.Closed.{IsClosedStore}
use Rattle.def_paths.specs.Agree.{Pairs}
use Rattle.def_paths.specs.Places.{Place, In_store, In_value, Side, entered, found, children}

-- the cells of its store and of its values reach no further than these
pub record IsClosedSide (a : Side) : Type 0 where
  pub store : IsClosedStore a.store
  pub values : (f : FutureShape) (u : ParcelShape) → a.values f ≡ Some u → IsClosedStore u.cells
  pub roots : (f : FutureShape) (u : ParcelShape) → a.values f ≡ Some u → 0 < length u.cells
  -- a value's root is no future
  pub plain : (f : FutureShape) (u : ParcelShape) → a.values f ≡ Some u → is_future (cell u.cells 0) ≡ false

-- a place that is there: within the store, or within the value that is entered
abbrev pub Good : Side → Place → Type 0
Good a (In_store j) = j < length a.store
Good a (In_value q j) = Good a q × ((u : ParcelShape) × (entered a q ≡ Some u) × (j < length u.cells))

-- related places show the same and lead to related places, and each has one partner
pub record Link (a b : Side) (R : Place → Place → Type 0) : Type 0 where
  pub left : (p q : Place) → R p q → Good a p
  pub right : (p q : Place) → R p q → Good b q
  pub same : (p q : Place) → R p q → found a p ≡ found b q
  pub next : (p q : Place) → R p q → Pairs R (children a p) (children b q)
  pub once : (p q r : Place) → R p q → R p r → q ≡ r
  pub back : (p q r : Place) → R p r → R q r → p ≡ q

-- a link of places that need not be there
pub record Matching (a b : Side) (R : Place → Place → Type 0) : Type 0 where
  pub same : (p q : Place) → R p q → found a p ≡ found b q
  pub next : (p q : Place) → R p q → Pairs R (children a p) (children b q)
  pub once : (p q r : Place) → R p q → R p r → q ≡ r
  pub back : (p q r : Place) → R p r → R q r → p ≡ q

abbrev pub matching : {a b : Side} {R : Place → Place → Type 0} → Link a b R → Matching a b R
matching l = record { same = l.same; next = l.next; once = l.once; back = l.back }
