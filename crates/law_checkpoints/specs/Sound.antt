-- What a checkpoint has to have, so that a run can go on from it.
use Rattle.std.specs.Prelude.{◌≡◌, ◌≢◌, ℕ, suc, ◌≤◌, true, T, List, [], ◌∷◌, ◌++◌, Option, Some, None, is_some}
use Rattle.std.specs.FinMap.{is_sorted}
use Rattle.asp_model.specs.Names.{Name, FutureShape, future_cmp, main_name, created_name}
use Rattle.asp_model.specs.Store.{CellShape, Object, Reference, Future, cell}
use Rattle.asp_model.specs.Parcel.{ParcelShape}
use Rattle.asp_model.specs.Configuration.{RequestShape, ServiceShape}
use Rattle.law_steps.specs.Linked.{Each}
use Rattle.law_steps.specs.Closed.{IsClosedActivity, IsClosedParcel, IsClosedValue}
use Rattle.law_programs.specs.Proper.{IsProperActivity, IsProperParcel}
use Rattle.code_laws.specs.Splitting.{AreContexts}
use Rattle.law_frozen.specs.Frozen.{FrozenActivity, FrozenShape}
use Rattle.law_checkpoints.specs.Lookups.{activity_of, IsNamed, creations_in, sends_in, HasHome, IsHoused, times_in}

-- Names

-- no name stands twice
abbrev pub StandOnce : List FrozenActivity → Type 0
StandOnce [] = Unit {0}
StandOnce (x ∷ xs) = (activity_of x.name xs ≡ None) × StandOnce xs

-- one of these has created it
abbrev pub IsCreatedAmong : List FrozenActivity → Name → Type 0
IsCreatedAmong xs n = (by : Name) × (k : ℕ) × (n ≡ created_name by (suc k)) × (suc k ≤ creations_in xs by)

-- each is created by one that stands before it
abbrev pub AreCreated : (before xs : List FrozenActivity) → Type 0
AreCreated before [] = Unit {0}
AreCreated before (x ∷ xs) = IsCreatedAmong before x.name × AreCreated (before ++ x ∷ []) xs

-- main is first, and each other one stands behind the one that has created it
abbrev pub BeginWithMain : List FrozenActivity → Type 0
BeginWithMain [] = ⊥
BeginWithMain (x ∷ xs) = (x.name ≡ main_name) × AreCreated (x ∷ []) xs

-- main and the created activities, each once
pub record HasNames (xs : List FrozenActivity) : Type 0 where
  pub once : StandOnce xs
  pub created : BeginWithMain xs
  -- all that an activity has created are there
  pub all : (by : Name) (k : ℕ) → suc k ≤ creations_in xs by → IsNamed xs (created_name by (suc k))

-- Cells, requests and values

-- the activity of a reference is there, and a future has its home
abbrev pub IsKnownIn : FrozenShape → CellShape → Type 0
IsKnownIn f (Reference n) = IsNamed f.activities n
IsKnownIn f (Future g) = IsHoused f g
IsKnownIn f c = Unit {0}

-- closed, proper, and all that it names is known
pub record IsSoundParcel (f : FrozenShape) (p : ParcelShape) : Type 0 where
  pub closed : IsClosedParcel p
  pub proper : IsProperParcel p
  pub known : Each (IsKnownIn f) p.cells

-- a request that is pending with an activity: its future has that as home, and its sender as sender
pub record IsSoundRequest (f : FrozenShape) (n : Name) (r : RequestShape) : Type 0 where
  pub home : HasHome f r.future n
  pub sender : r.sender ≡ r.future.by
  pub arguments : IsSoundParcel f r.arguments

-- a value of a future that has its home, with one root, which is its first cell
pub record IsSoundValue (f : FrozenShape) (g : FutureShape) (p : ParcelShape) : Type 0 where
  pub home : IsHoused f g
  pub closed : IsClosedValue p
  pub parcel : IsSoundParcel f p

-- Services

-- what has to be answered here has its home here
abbrev pub IsAnsweredAt : FrozenShape → Name → Option FutureShape → Type 0
IsAnsweredAt f n None = Unit {0}
IsAnsweredAt f n (Some g) = HasHome f g n

-- a future is present exactly where a term is suspended; the oldest of these has none to answer, each other has one
abbrev pub AnswersAreRight : (present : Option FutureShape) → List ServiceShape → Type 0
AnswersAreRight present [] = present ≡ None
AnswersAreRight present (v ∷ vs) = (is_some present ≡ true) × (v.future ≡ None) × Each (λ u. is_some u.future ≡ true) vs

-- Activities

abbrev pub IsObject : CellShape → Type 0
IsObject (Object fields methods) = Unit {0}
IsObject c = ⊥

pub record IsSoundActivity (f : FrozenShape) (x : FrozenActivity) : Type 0 where
  -- no place lies past the end of the store
  pub closed : IsClosedActivity x.activity
  -- terms, contexts and objects are proper: no hole, no free variable, no double label
  pub proper : IsProperActivity x.activity
  -- the hole of each suspended context is reduced in place, and all before it are places
  pub contexts : Each (λ v. AreContexts v.contexts) x.activity.services
  -- the active object is an object
  pub object : IsObject (cell x.activity.store x.activity.active)
  -- all that stands in the store is known
  pub known : Each (IsKnownIn f) x.activity.store
  pub queue : Each (IsSoundRequest f x.name) x.queue
  pub present : IsAnsweredAt f x.name x.activity.present
  pub suspended : Each (λ v. IsAnsweredAt f x.name v.future) x.activity.services
  pub answers : AnswersAreRight x.activity.present x.activity.services

-- Homes

-- a future that was begun, with who received its request
pub record IsSoundHome (f : FrozenShape) (g : FutureShape) (n : Name) : Type 0 where
  pub first : 1 ≤ g.index
  pub last : g.index ≤ sends_in f.activities g.by
  -- that one is there, and is not main
  pub named : IsNamed f.activities n
  pub other : n ≢ main_name
  -- it stands once: its request is pending there, or has to be answered there, or it is filled
  pub once : times_in f g n ≡ 1

-- All of it

pub record IsSoundFrozen (f : FrozenShape) : Type 0 where
  pub names : HasNames f.activities
  pub activities : Each (IsSoundActivity f) f.activities
  -- homes ascend by futures, and exactly those that were begun have one
  pub homes_ascend : T (is_sorted future_cmp f.homes)
  pub homes : Each (λ h. IsSoundHome f h.0 h.1) f.homes
  pub begun : (n : Name) (i : ℕ) → suc i ≤ sends_in f.activities n → IsHoused f (record { by = n; index = suc i })
  -- filled futures ascend
  pub filled_ascend : T (is_sorted future_cmp f.filled)
  pub filled : Each (λ v. IsSoundValue f v.0 v.1) f.filled
