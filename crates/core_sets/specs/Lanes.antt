-- Places in lanes: where each stands, and the first marked place of each lane that is open.
use Rattle.std.specs.Prelude.{◌≡◌, ◌≢◌, ℕ, zero, suc, ◌+◌, ◌<◌, ◌≤◌, ◌==◌, ◌&&◌, not, Bool, true, false, length, slice_get, slice_index, slice_index_or, Option, Some, None}
use Rattle.core_sets.specs.declared.lane.Lane.{Lane}
use Rattle.core_sets.specs.declared.lanes.Lanes.{Lanes}
use Rattle.core_sets.specs.declared.lanes.Spot.{Spot}
use Rattle.core_sets.specs.declared.marks.Marks.{Marks}
use Rattle.core_sets.specs.Marks.{IsTree, MarkedSo, SameMarks, is_marked, room as room_of}

-- no number below this one passes the test
abbrev pub none_before : (ℕ → Bool) → ℕ → Bool
none_before test zero = true
none_before test (suc n) = not (test n) && none_before test n

-- it is the first number that passes the test
abbrev pub is_first : (ℕ → Bool) → ℕ → Bool
is_first test n = test n && none_before test n

-- A lane

-- the place of an ordinal
abbrev pub place_at : Lane → ℕ → ℕ
place_at l i = slice_index l.places.items i

abbrev pub size_of : Lane → ℕ
size_of l = length l.places.items

pub record IsLane (l : Lane) : Type 0 where
  pub tree : IsTree l.marks
  pub room : size_of l ≤ room_of l.marks
  pub inside : (i : ℕ) → is_marked l.marks i ≡ true → i < size_of l
  pub rising : (i j : ℕ) → i < j → j < size_of l → place_at l i < place_at l j

-- the lane is open, and the place of this ordinal is its first marked one
abbrev pub is_front : Lane → ℕ → Bool
is_front l i = not l.closed && is_first (is_marked l.marks) i

-- the ordinal of the front, if there is one
abbrev pub IsFront : Lane → Option ℕ → Type 0
IsFront l None = (i : ℕ) → is_front l i ≡ false
IsFront l (Some k) = (k < size_of l) × ((i : ℕ) → is_front l i ≡ (i == k))

abbrev pub IsWithin : Lane → Option ℕ → Type 0
IsWithin l None = Unit {0}
IsWithin l (Some k) = k < size_of l

-- all its places are below the room
abbrev pub FitIn : Lane → ℕ → Type 0
FitIn l n = (i : ℕ) → i < size_of l → place_at l i < n

-- the fronts show its front, and no other of its places
abbrev pub AreShown : Lane → Marks → Type 0
AreShown l fronts = (i : ℕ) → i < size_of l → is_marked fronts (place_at l i) ≡ is_front l i

-- the place of an ordinal is marked so, and the others stay
abbrev pub ShownSo : Lane → Option ℕ → Bool → (old new : Marks) → Type 0
ShownSo l None mark old new = SameMarks old new
ShownSo l (Some k) mark old new = MarkedSo (place_at l k) mark old new

-- what is none of its places stays
abbrev pub KeepsOthers : Lane → (old new : Marks) → Type 0
KeepsOthers l old new = (p : ℕ) → ((i : ℕ) → i < size_of l → place_at l i ≢ p) → is_marked new p ≡ is_marked old p

-- All lanes

abbrev pub count : Lanes → ℕ
count t = length t.spots.items

abbrev pub lane_count : Lanes → ℕ
lane_count t = length t.lanes.items

abbrev pub spot : ℕ → ℕ → Spot
spot k i = record { lane = k; ordinal = i }

-- where a place stands
abbrev pub spot_at : Lanes → ℕ → Spot
spot_at t p = slice_index_or t.spots.items p (spot 0 0)

abbrev pub lane_of : Lanes → ℕ → ℕ
lane_of t p = (spot_at t p).lane

abbrev pub lane_at : Lanes → ℕ → Option Lane
lane_at t k = slice_get t.lanes.items k

abbrev pub is_closed_in : Option Lane → Bool
is_closed_in None = false
is_closed_in (Some l) = l.closed

abbrev pub is_closed : Lanes → ℕ → Bool
is_closed t k = is_closed_in (lane_at t k)

-- a place has this ordinal
abbrev pub Stands : Option Lane → (ordinal place : ℕ) → Type 0
Stands None i p = ⊥
Stands (Some l) i p = (i < size_of l) × (place_at l i ≡ p)

pub record IsLaneOf (t : Lanes) (k : ℕ) (l : Lane) : Type 0 where
  pub lane : IsLane l
  pub within : FitIn l (count t)
  pub spots : (i : ℕ) → i < size_of l → spot_at t (place_at l i) ≡ spot k i
  pub told : (i : ℕ) → i < size_of l → is_marked l.marks i ≡ is_marked t.marks (place_at l i)
  pub shown : AreShown l t.fronts

pub record AreLanes (t : Lanes) : Type 0 where
  pub marks : IsTree t.marks
  pub fronts : IsTree t.fronts
  pub room : count t ≤ room_of t.marks
  pub front_room : count t ≤ room_of t.fronts
  pub lanes : (k : ℕ) (l : Lane) → lane_at t k ≡ Some l → IsLaneOf t k l
  pub spots : (p : ℕ) → p < count t → Stands (lane_at t (lane_of t p)) (spot_at t p).ordinal p
  pub within : (p : ℕ) → is_marked t.marks p ≡ true → p < count t
  pub fronts_within : (p : ℕ) → is_marked t.fronts p ≡ true → p < count t

-- a lane is closed so, and the others stay
abbrev pub ClosedSo : ℕ → Bool → (old new : Lanes) → Type 0
ClosedSo lane closed old new = (k : ℕ) → is_closed new k ≡ elim (k == lane) [ true ↦ closed | false ↦ is_closed old k ]

abbrev pub SameClosed : (old new : Lanes) → Type 0
SameClosed old new = (k : ℕ) → is_closed new k ≡ is_closed old k

-- a place is marked, and its lane is open
abbrev pub is_open : Lanes → ℕ → Bool
is_open t p = is_marked t.marks p && not (is_closed t (lane_of t p))

-- one more place, in a lane
pub record IsGrown (lane : ℕ) (old new : Lanes) : Type 0 where
  pub more : count new ≡ count old + 1
  pub here : lane_of new (count old) ≡ lane
  pub others : (p : ℕ) → p < count old → lane_of new p ≡ lane_of old p

-- no place is added, and no lane is closed or opened
pub record KeepsLanes (old new : Lanes) : Type 0 where
  pub lanes : AreLanes new
  pub spots : new.spots.items ≡ old.spots.items
  pub closed : SameClosed old new
  pub more : lane_count old ≤ lane_count new
