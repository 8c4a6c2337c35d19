-- Lanes after a change of one of them, and the first marked place in an open one.
use Rattle.std.proofs.Common.{◌≡◌, ◌≢◌, ℕ, zero, suc, ◌+◌, ◌<◌, ◌≤◌, ◌⊎◌, inl, inr, Bool, true, false, eqb, List, [], ◌∷◌, ◌++◌, length, set, refl, sym, ap, ◌∙◌, subst, arith}
use Rattle.std.specs.Prelude.{◌==◌, ◌&&◌, not, Option, Some, None, leb, slice_get, slice_index_or}
use Rattle.std.proofs.Common.{get_or, length-append, Result, Ok, Err}
use Rattle.std.specs.Prelude.{OnErr}
use Rattle.std.specs.Global.{Vec}
use Rattle.std.proofs.Math.Seq.{get_or-append_seam}
use Rattle.std.proofs.lemmas.List.{get_or_append_left}
use Rattle.std.proofs.lemmas.Option.{slice_get_read}
use Rattle.std.proofs.lemmas.Bool.Decides.{eqb_tells, leb_tells}
use Rattle.core_sets.specs.declared.lane.Lane.{Lane}
use Rattle.core_sets.specs.declared.lanes.Lanes.{Lanes}
use Rattle.core_sets.specs.declared.lanes.Spot.{Spot}
use Rattle.core_sets.specs.declared.marks.Marks.{Marks}
use Rattle.core_sets.specs.Firsts.{IsFirstFrom}
use Rattle.core_sets.specs.Lanes.{AreLanes, AreShown, FitIn, IsGrown, IsLane, IsLaneOf, KeepsOthers, Stands, count, is_closed, is_closed_in, is_first, is_front, is_open, lane_at, lane_count, lane_of, place_at, size_of, spot, spot_at}
use Rattle.core_sets.specs.Marks.{IsTree, MarkedSo, SameMarks, is_marked, room as room_of}
use Rattle.core_sets.proofs.LaneLemmas.{both_true, clash, first_up_to, ordinal_told}

-- An element of a list after a write

pub set_here : {A : Type 0} (xs : List A) (k : ℕ) (x : A) → k < length xs → slice_get (set xs k x) k ≡ Some x
set_here [] k x lt = absurd (omega (arith, lt))
set_here (y ∷ ys) zero x lt = refl
set_here (y ∷ ys) (suc k) x lt = set_here ys k x (omega (arith, lt))

pub set_other : {A : Type 0} (xs : List A) (k j : ℕ) (x : A) → j ≢ k → slice_get (set xs k x) j ≡ slice_get xs j
set_other [] k j x ne = refl
set_other (y ∷ ys) zero zero x ne = absurd (ne refl)
set_other (y ∷ ys) zero (suc j) x ne = refl
set_other (y ∷ ys) (suc k) zero x ne = refl
set_other (y ∷ ys) (suc k) (suc j) x ne = set_other ys k j x (λ e. ne (ap suc e))

pub within_get : {A : Type 0} (xs : List A) (k : ℕ) (x : A) → slice_get xs k ≡ Some x → k < length xs
within_get [] k x e = cc
within_get (y ∷ ys) zero x e = omega arith
within_get (y ∷ ys) (suc k) x e = let lt = within_get ys k x e in omega (arith, lt)

-- The first open place

pub stands_so : (o : Option Lane) (l : Lane) (i p : ℕ) → o ≡ Some l → Stands o i p → (i < size_of l) × (place_at l i ≡ p)
stands_so o l i p e s = subst (λ x. Stands x i p) e s

-- what is open at a place, by its lane
pub at_lane : (t : Lanes) → AreLanes t → (p : ℕ) → p < count t → (l : Lane) × ((lane_at t (lane_of t p) ≡ Some l) × ((spot_at t p).ordinal < size_of l) × (place_at l (spot_at t p).ordinal ≡ p))
at_lane t h p lt = by (lane_at t (lane_of t p)) refl (h.spots p lt)
  where
    by : (o : Option Lane) → lane_at t (lane_of t p) ≡ o → Stands o (spot_at t p).ordinal p → (l : Lane) × ((lane_at t (lane_of t p) ≡ Some l) × ((spot_at t p).ordinal < size_of l) × (place_at l (spot_at t p).ordinal ≡ p))
    by None e s = absurd s
    by (Some l) e s = (l, (e, s.0, s.1))

pub fronts_open : (t : Lanes) → AreLanes t → (p : ℕ) → is_marked t.fronts p ≡ true → is_open t p ≡ true
fronts_open t h p e =
    let x = at_lane t h p (h.fronts_within p e) in
    let l : Lane = x.0 in
    let k : ℕ = lane_of t p in
    let i : ℕ = (spot_at t p).ordinal in
    let g : IsLaneOf t k l = h.lanes k l x.1.0 in
    let front : is_front l i ≡ true = sym (g.shown i x.1.1) ∙ ap (is_marked t.fronts) x.1.2 ∙ e in
    let parts = both_true (not l.closed) (is_first (is_marked l.marks) i) front in
    let marked : is_marked t.marks p ≡ true = ap (is_marked t.marks) (sym x.1.2) ∙ sym (g.told i x.1.1) ∙ (both_true (is_marked l.marks i) _ parts.1).0 in
    let open_lane : not (is_closed t k) ≡ true = ap (λ o. not (is_closed_in o)) x.1.0 ∙ parts.0 in
    λ j. marked j && open_lane j

-- an open place has a front at it or before it
pub front_before : (t : Lanes) → AreLanes t → (p : ℕ) → is_open t p ≡ true → (q : ℕ) × ((q ≤ p) × (is_marked t.fronts q ≡ true))
front_before t h p e =
    let parts = both_true (is_marked t.marks p) (not (is_closed t (lane_of t p))) e in
    let x = at_lane t h p (h.within p parts.0) in
    let l : Lane = x.0 in
    let k : ℕ = lane_of t p in
    let i : ℕ = (spot_at t p).ordinal in
    let g : IsLaneOf t k l = h.lanes k l x.1.0 in
    let marked : is_marked l.marks i ≡ true = g.told i x.1.1 ∙ ap (is_marked t.marks) x.1.2 ∙ parts.0 in
    let open_lane : not l.closed ≡ true = sym (ap (λ o. not (is_closed_in o)) x.1.0) ∙ parts.1 in
    let f = first_up_to (is_marked l.marks) i marked in
    let lt : f.0 < size_of l = omega (arith, f.1.0, x.1.1) in
    (place_at l f.0, (before l g.lane f.0 i p f.1.0 x.1.1 x.1.2, g.shown f.0 lt ∙ (λ j. open_lane j && f.1.1 j)))
  where
    before : (l : Lane) → IsLane l → (j i p : ℕ) → j ≤ i → i < size_of l → place_at l i ≡ p → place_at l j ≤ p
    before l g j i p le lt e = elim (leb_tells i j) [
      | inl more ↦ let same : j ≡ i = omega (arith, le, more.1) in let r = ap (place_at l) same in omega (arith, r, e)
      | inr less ↦ let r = g.rising j i less.1 lt in omega (arith, r, e)
    ]

pub first_open : (t : Lanes) → AreLanes t → (o : Option ℕ) → IsFirstFrom (is_marked t.fronts) 0 o → IsFirstFrom (is_open t) 0 o
first_open t h None none = λ n from. by n (is_open t n) refl
  where
    by : (n : ℕ) (b : Bool) → is_open t n ≡ b → b ≡ false
    by n true e = let f = front_before t h n e in clash f.1.1 (none f.0 (omega arith))
    by n false e = refl
first_open t h (Some m) first = (omega arith, fronts_open t h m first.1, λ n from lt. by n lt (is_open t n) refl)
  where
    by : (n : ℕ) → n < m → (b : Bool) → is_open t n ≡ b → b ≡ false
    by n lt true e = let f = front_before t h n e in clash f.1.1 (first.2 f.0 (omega arith) (omega (arith, f.1.0, lt)))
    by n lt false e = refl

-- A change of one lane, where no place is added

pub replaced : (xs : List Lane) (k j : ℕ) (l m : Lane) → k < length xs → slice_get (set xs k l) j ≡ Some m → ((j ≡ k) × (l ≡ m)) ⊎ ((j ≢ k) × (slice_get xs j ≡ Some m))
replaced xs k j l m lt e = elim (eqb_tells j k) [
  | inl a ↦ let here : slice_get (set xs k l) j ≡ Some l = ap (slice_get (set xs k l)) a.1 ∙ set_here xs k l lt in
      let same : Some l ≡ Some m = sym here ∙ e in
      inl (a.1, cc)
  | inr a ↦ inr (a.1, sym (set_other xs k j l a.1) ∙ e)
]

-- what one change of a lane leaves
pub record IsChange (t new : Lanes) (k : ℕ) (l m : Lane) : Type 0 where
  pub here : lane_at t k ≡ Some l
  pub lanes : new.lanes.items ≡ set t.lanes.items k m
  pub spots : new.spots.items ≡ t.spots.items
  pub lane : IsLane m
  pub places : m.places.items ≡ l.places.items
  pub marks : IsTree new.marks
  pub room : count t ≤ room_of new.marks
  pub within : (p : ℕ) → is_marked new.marks p ≡ true → p < count t
  pub told : (i : ℕ) → i < size_of l → is_marked m.marks i ≡ is_marked new.marks (place_at l i)
  pub others : (p : ℕ) → lane_of t p ≢ k → is_marked new.marks p ≡ is_marked t.marks p
  pub fronts : IsTree new.fronts
  pub front_room : count t ≤ room_of new.fronts
  pub shown : AreShown m new.fronts
  pub hidden : KeepsOthers l t.fronts new.fronts

pub changed : (t new : Lanes) (k : ℕ) (l m : Lane) → AreLanes t → IsChange t new k l m → AreLanes new
changed t new k l m h x = record {
  marks = x.marks;
  fronts = x.fronts;
  room = omega (arith, x.room, size);
  front_room = omega (arith, x.front_room, size);
  lanes = λ j n e. by j n (replaced t.lanes.items k j m n (within_get t.lanes.items k l x.here) (sym (ap (λ xs. slice_get xs j) x.lanes) ∙ e));
  spots = λ p lt. stand p (omega (arith, lt, size));
  within = λ p e. let lt = x.within p e in omega (arith, lt, size);
  fronts_within = λ p e. front_within p e (leb_tells (count t) p);
}
  where
    size : count new ≡ count t
    size = ap (λ s. length s) x.spots

    same_spot : (p : ℕ) → spot_at new p ≡ spot_at t p
    same_spot p = ap (λ s. slice_index_or s p (spot 0 0)) x.spots

    same_size : size_of m ≡ size_of l
    same_size = ap (λ s. length s) x.places

    same_place : (i : ℕ) → place_at m i ≡ place_at l i
    same_place i = ap (λ s. slice_index_or s i 0) x.places

    old : IsLaneOf t k l
    old = h.lanes k l x.here

    here : IsLaneOf new k m
    here = record {
      lane = x.lane;
      within = λ i lt. let r = old.within i (omega (arith, lt, same_size)) in omega (arith, r, same_place i, size);
      spots = λ i lt. same_spot (place_at m i) ∙ ap (spot_at t) (same_place i) ∙ old.spots i (omega (arith, lt, same_size));
      told = λ i lt. x.told i (omega (arith, lt, same_size)) ∙ ap (is_marked new.marks) (sym (same_place i));
      shown = x.shown;
    }

    by : (j : ℕ) (n : Lane) → ((j ≡ k) × (m ≡ n)) ⊎ ((j ≢ k) × (slice_get t.lanes.items j ≡ Some n)) → IsLaneOf new j n
    by j n (inl a) = subst (λ i. IsLaneOf new i n) (sym a.0) (subst (IsLaneOf new k) a.1 here)
    by j n (inr a) =
        let g = h.lanes j n a.1 in
        record {
          lane = g.lane;
          within = λ i lt. let r = g.within i lt in omega (arith, r, size);
          spots = λ i lt. same_spot (place_at n i) ∙ g.spots i lt;
          told = λ i lt. g.told i lt ∙ sym (x.others (place_at n i) (λ e. a.0 (sym (ap (λ (s : Spot). s.lane) (g.spots i lt)) ∙ e)));
          shown = λ i lt. x.hidden (place_at n i) (λ o olt e. a.0 (ap (λ (s : Spot). s.lane) (sym (g.spots i lt) ∙ ap (spot_at t) (sym e) ∙ old.spots o olt))) ∙ g.shown i lt;
        }

    stand_in : (o : Option Lane) (i p : ℕ) → o ≡ Some l → Stands o i p → Stands (Some m) i p
    stand_in o i p e s = let r = stands_so o l i p e s in (omega (arith, r.0, same_size), same_place i ∙ r.1)

    stand : (p : ℕ) → p < count t → Stands (lane_at new (lane_of new p)) (spot_at new p).ordinal p
    stand p lt =
        subst (λ (s : Spot). Stands (lane_at new s.lane) s.ordinal p) (sym (same_spot p))
        (subst (λ xs. Stands (slice_get xs (lane_of t p)) (spot_at t p).ordinal p) (sym x.lanes)
        (elim (eqb_tells (lane_of t p) k) [
          | inl a ↦ let e : lane_at t (lane_of t p) ≡ Some l = ap (lane_at t) a.1 ∙ x.here in
              let s : slice_get (set t.lanes.items k m) (lane_of t p) ≡ Some m = ap (slice_get (set t.lanes.items k m)) a.1 ∙ set_here t.lanes.items k m (within_get t.lanes.items k l x.here) in
              subst (λ o. Stands o (spot_at t p).ordinal p) (sym s) (stand_in (lane_at t (lane_of t p)) (spot_at t p).ordinal p e (h.spots p lt))
          | inr a ↦ subst (λ o. Stands o (spot_at t p).ordinal p) (sym (set_other t.lanes.items k (lane_of t p) m a.1)) (h.spots p lt)
        ]))

    front_within : (p : ℕ) → is_marked new.fronts p ≡ true → ((leb (count t) p ≡ true) × (count t ≤ p)) ⊎ ((leb (count t) p ≡ false) × (p < count t)) → p < count new
    front_within p e (inl a) =
        let kept : is_marked new.fronts p ≡ is_marked t.fronts p = x.hidden p (λ i lt s. let r = old.within i lt in absurd (omega (arith, r, s, a.1))) in
        let lt = h.fronts_within p (sym kept ∙ e) in omega (arith, lt, size)
    front_within p e (inr a) = omega (arith, a.1, size)

pub closed_so : (t : Lanes) (k : ℕ) (m : Lane) (closed : Bool) → k < lane_count t → m.closed ≡ closed → (j : ℕ) → is_closed_in (slice_get (set t.lanes.items k m) j) ≡ elim (j == k) [ true ↦ closed | false ↦ is_closed t j ]
closed_so t k m closed lt c j = elim (eqb_tells j k) [
  | inl a ↦ ap is_closed_in (ap (slice_get (set t.lanes.items k m)) a.1 ∙ set_here t.lanes.items k m lt) ∙ c ∙ sym (ap (λ b. elim b [ true ↦ closed | false ↦ is_closed t j ]) a.0)
  | inr a ↦ ap is_closed_in (set_other t.lanes.items k j m a.1) ∙ sym (ap (λ b. elim b [ true ↦ closed | false ↦ is_closed t j ]) a.0)
]

pub closed_same : (t : Lanes) (k : ℕ) (l m : Lane) → lane_at t k ≡ Some l → m.closed ≡ l.closed → (j : ℕ) → is_closed_in (slice_get (set t.lanes.items k m) j) ≡ is_closed t j
closed_same t k l m here c j = closed_so t k m m.closed (within_get t.lanes.items k l here) refl j ∙ elim (eqb_tells j k) [
  | inl a ↦ ap (λ b. elim b [ true ↦ m.closed | false ↦ is_closed t j ]) a.0 ∙ c ∙ sym (ap is_closed_in (ap (lane_at t) a.1 ∙ here))
  | inr a ↦ ap (λ b. elim b [ true ↦ m.closed | false ↦ is_closed t j ]) a.0
]

-- where a place that is read stands
pub spot_told : (t : Lanes) → AreLanes t → (p : ℕ) (s : Spot) (l : Lane) → p < count t → s ≡ spot_at t p → l ≡ get_or t.lanes.items s.lane l → (lane_at t s.lane ≡ Some l) × (s.ordinal < size_of l) × (place_at l s.ordinal ≡ p)
spot_told t h p s l lt e read =
    let x = at_lane t h p lt in
    let found : lane_at t s.lane ≡ Some x.0 = ap (λ (y : Spot). lane_at t y.lane) e ∙ x.1.0 in
    let here : lane_at t s.lane ≡ Some l = slice_get_read t.lanes.items (lane_count t) s.lane l refl (within_get t.lanes.items s.lane x.0 found) read in
    let same : Some x.0 ≡ Some l = sym found ∙ here in
    let lane : x.0 ≡ l = cc in
    let ordinal : s.ordinal ≡ (spot_at t p).ordinal = ap (λ (y : Spot). y.ordinal) e in
    (here, subst (λ i. i < size_of l) (sym ordinal) (subst (λ n. (spot_at t p).ordinal < size_of n) lane x.1.1), ap (place_at l) ordinal ∙ sym (ap (λ n. place_at n (spot_at t p).ordinal) lane) ∙ x.1.2)

pub fit_in : (t : Lanes) → AreLanes t → (k : ℕ) (l : Lane) → lane_at t k ≡ Some l → FitIn l (room_of t.fronts)
fit_in t h k l e i lt = let r = (h.lanes k l e).within i lt in omega (arith, r, h.front_room)

-- a mark of a place is one of its ordinal
pub told_so : (t : Lanes) → AreLanes t → (k : ℕ) (l : Lane) → lane_at t k ≡ Some l → (ordinal p : ℕ) (mark : Bool) (marks new : Marks) → ordinal < size_of l → place_at l ordinal ≡ p → MarkedSo ordinal mark l.marks marks → MarkedSo p mark t.marks new → (i : ℕ) → i < size_of l → is_marked marks i ≡ is_marked new (place_at l i)
told_so t h k l e ordinal p mark marks new within here so made i lt =
    so i
    ∙ (λ j. elim (same j) [ true ↦ mark | false ↦ (h.lanes k l e).told i lt j ])
    ∙ sym (made (place_at l i))
  where
    same : (i == ordinal) ≡ (place_at l i == p)
    same = sym (ordinal_told l (h.lanes k l e).lane i ordinal lt within) ∙ ap (λ q. place_at l i == q) here

pub others_so : (t : Lanes) (p k : ℕ) (mark : Bool) (new : Marks) → lane_of t p ≡ k → MarkedSo p mark t.marks new → (q : ℕ) → lane_of t q ≢ k → is_marked new q ≡ is_marked t.marks q
others_so t p k mark new e made q ne = made q ∙ elim (eqb_tells q p) [
  | inl a ↦ absurd (ne (ap (lane_of t) a.1 ∙ e))
  | inr a ↦ ap (λ b. elim b [ true ↦ mark | false ↦ is_marked t.marks q ]) a.0
]

pub within_so : (t : Lanes) → AreLanes t → (p : ℕ) (mark : Bool) (new : Marks) → p < count t → MarkedSo p mark t.marks new → (q : ℕ) → is_marked new q ≡ true → q < count t
within_so t h p mark new lt made q e = elim (eqb_tells q p) [
  | inl a ↦ omega (arith, a.1, lt)
  | inr a ↦ h.within q (sym (made q ∙ ap (λ b. elim b [ true ↦ mark | false ↦ is_marked t.marks q ]) a.0) ∙ e)
]

-- One more lane

pub get_append : {A : Type 0} (xs ys : List A) (k : ℕ) (x : A) → slice_get xs k ≡ Some x → slice_get (xs ++ ys) k ≡ Some x
get_append [] ys k x e = cc
get_append (z ∷ zs) ys zero x e = e
get_append (z ∷ zs) ys (suc k) x e = get_append zs ys k x e

-- what stands in a longer list stood there, or is what came behind
pub got_append : {A : Type 0} (xs : List A) (y : A) (k : ℕ) (x : A) → slice_get (xs ++ y ∷ []) k ≡ Some x → (slice_get xs k ≡ Some x) ⊎ (y ≡ x)
got_append [] y zero x e = inr cc
got_append [] y (suc k) x e = cc
got_append (z ∷ zs) y zero x e = inl e
got_append (z ∷ zs) y (suc k) x e = got_append zs y k x e

pub closed_append : (xs : List Lane) (y : Lane) (k : ℕ) → y.closed ≡ false → is_closed_in (slice_get (xs ++ y ∷ []) k) ≡ is_closed_in (slice_get xs k)
closed_append [] y zero e = e
closed_append [] y (suc k) e = refl
closed_append (z ∷ zs) y zero e = refl
closed_append (z ∷ zs) y (suc k) e = closed_append zs y k e

pub more_lanes : (t : Lanes) (v : Vec Lane) (y : Lane) → AreLanes t → IsLane y → size_of y ≡ 0 → v.items ≡ t.lanes.items ++ y ∷ [] → AreLanes (record t { lanes = v })
more_lanes t v y h lane none items = record {
  marks = h.marks;
  fronts = h.fronts;
  room = h.room;
  front_room = h.front_room;
  lanes = λ k l e. by k l (got_append t.lanes.items y k l (sym (ap (λ xs. slice_get xs k) items) ∙ e));
  spots = λ p lt. let x = at_lane t h p lt in stands p x.0 x.1.0 (x.1.1, x.1.2);
  within = h.within;
  fronts_within = h.fronts_within;
}
  where
    by : (k : ℕ) (l : Lane) → (slice_get t.lanes.items k ≡ Some l) ⊎ (y ≡ l) → IsLaneOf (record t { lanes = v }) k l
    by k l (inl e) = let g = h.lanes k l e in record { lane = g.lane; within = g.within; spots = g.spots; told = g.told; shown = g.shown }
    by k l (inr e) = subst (IsLaneOf (record t { lanes = v }) k) e (record {
      lane = lane;
      within = λ i lt. absurd (omega (arith, lt, none));
      spots = λ i lt. absurd (omega (arith, lt, none));
      told = λ i lt. absurd (omega (arith, lt, none));
      shown = λ i lt. absurd (omega (arith, lt, none));
    })

    stands : (p : ℕ) (l : Lane) → lane_at t (lane_of t p) ≡ Some l → Stands (Some l) (spot_at t p).ordinal p → Stands (slice_get v.items (lane_of t p)) (spot_at t p).ordinal p
    stands p l e s =
        let found : slice_get v.items (lane_of t p) ≡ Some l = ap (λ xs. slice_get xs (lane_of t p)) items ∙ get_append t.lanes.items (y ∷ []) (lane_of t p) l e in
        subst (λ o. Stands o (spot_at t p).ordinal p) (sym found) s

-- One more place

-- what one more place in a lane leaves
pub record IsGrowth (t new : Lanes) (k : ℕ) (l m : Lane) : Type 0 where
  pub here : lane_at t k ≡ Some l
  pub lanes : new.lanes.items ≡ set t.lanes.items k m
  pub spots : new.spots.items ≡ t.spots.items ++ spot k (size_of l) ∷ []
  pub lane : IsLane m
  pub places : m.places.items ≡ l.places.items ++ count t ∷ []
  pub closed : m.closed ≡ l.closed
  pub ordinals : SameMarks l.marks m.marks
  pub marks : IsTree new.marks
  pub same : SameMarks t.marks new.marks
  pub room : count t < room_of new.marks
  pub fronts : IsTree new.fronts
  pub front_same : SameMarks t.fronts new.fronts
  pub front_room : count t < room_of new.fronts

read_left : {A : Type 0} (xs : List A) (y d : A) (i : ℕ) → i < length xs → slice_index_or (xs ++ y ∷ []) i d ≡ slice_index_or xs i d
read_left xs y d i lt = get_or_append_left xs (y ∷ []) d i lt

read_last : {A : Type 0} (xs : List A) (y d : A) → slice_index_or (xs ++ y ∷ []) (length xs) d ≡ y
read_last xs y d = get_or-append_seam xs y [] d

not_marked : (f : ℕ → Bool) (n i : ℕ) → ((j : ℕ) → f j ≡ true → j < n) → n ≤ i → f i ≡ false
not_marked f n i within le = by (f i) refl
  where
    by : (b : Bool) → f i ≡ b → b ≡ false
    by true e = let lt = within i e in absurd (omega (arith, lt, le))
    by false e = refl

both_not : (a b c : Bool) → b ≡ false → (a && (b && c)) ≡ false
both_not true b c e = ap (λ x. x && c) e
both_not false b c e = refl

pub grown : (t new : Lanes) (k : ℕ) (l m : Lane) → AreLanes t → IsGrowth t new k l m → AreLanes new
grown t new k l m h x = record {
  marks = x.marks;
  fronts = x.fronts;
  room = omega (arith, x.room, size);
  front_room = omega (arith, x.front_room, size);
  lanes = λ j n e. by j n (replaced t.lanes.items k j m n (within_get t.lanes.items k l x.here) (sym (ap (λ xs. slice_get xs j) x.lanes) ∙ e));
  spots = λ p lt. stand p lt (leb_tells (count t) p);
  within = λ p e. let lt = h.within p (sym (x.same p) ∙ e) in omega (arith, lt, size);
  fronts_within = λ p e. let lt = h.fronts_within p (sym (x.front_same p) ∙ e) in omega (arith, lt, size);
}
  where
    size : count new ≡ count t + 1
    size = ap (λ s. length s) x.spots ∙ length-append t.spots.items (spot k (size_of l) ∷ [])

    old_spot : (p : ℕ) → p < count t → spot_at new p ≡ spot_at t p
    old_spot p lt = ap (λ s. slice_index_or s p (spot 0 0)) x.spots ∙ read_left t.spots.items (spot k (size_of l)) (spot 0 0) p lt

    new_spot : spot_at new (count t) ≡ spot k (size_of l)
    new_spot = ap (λ s. slice_index_or s (count t) (spot 0 0)) x.spots ∙ read_last t.spots.items (spot k (size_of l)) (spot 0 0)

    long : size_of m ≡ size_of l + 1
    long = ap (λ s. length s) x.places ∙ length-append l.places.items (count t ∷ [])

    old_place : (i : ℕ) → i < size_of l → place_at m i ≡ place_at l i
    old_place i lt = ap (λ s. slice_index_or s i 0) x.places ∙ read_left l.places.items (count t) 0 i lt

    new_place : place_at m (size_of l) ≡ count t
    new_place = ap (λ s. slice_index_or s (size_of l) 0) x.places ∙ read_last l.places.items (count t) 0

    old : IsLaneOf t k l
    old = h.lanes k l x.here

    same_front : (i : ℕ) → is_front m i ≡ is_front l i
    same_front i = λ j. not (x.closed j) && is_first (λ q. x.ordinals q j) i

    no_front : is_front l (size_of l) ≡ false
    no_front = both_not (not l.closed) (is_marked l.marks (size_of l)) _ (not_marked (is_marked l.marks) (size_of l) (size_of l) old.lane.inside (omega arith))

    within : (i : ℕ) → i < size_of m → ((leb (size_of l) i ≡ true) × (size_of l ≤ i)) ⊎ ((leb (size_of l) i ≡ false) × (i < size_of l)) → place_at m i < count new
    within i lt (inl a) = let e : i ≡ size_of l = omega (arith, lt, long, a.1) in let r : place_at m i ≡ count t = ap (place_at m) e ∙ new_place in omega (arith, r, size)
    within i lt (inr a) = let r = old.within i a.1 in let e = old_place i a.1 in omega (arith, r, e, size)

    spots : (i : ℕ) → i < size_of m → ((leb (size_of l) i ≡ true) × (size_of l ≤ i)) ⊎ ((leb (size_of l) i ≡ false) × (i < size_of l)) → spot_at new (place_at m i) ≡ spot k i
    spots i lt (inl a) = let e : i ≡ size_of l = omega (arith, lt, long, a.1) in ap (λ n. spot_at new (place_at m n)) e ∙ ap (spot_at new) new_place ∙ new_spot ∙ ap (spot k) (sym e)
    spots i lt (inr a) = ap (spot_at new) (old_place i a.1) ∙ old_spot (place_at l i) (old.within i a.1) ∙ old.spots i a.1

    told : (i : ℕ) → i < size_of m → ((leb (size_of l) i ≡ true) × (size_of l ≤ i)) ⊎ ((leb (size_of l) i ≡ false) × (i < size_of l)) → is_marked m.marks i ≡ is_marked new.marks (place_at m i)
    told i lt (inl a) =
        let e : i ≡ size_of l = omega (arith, lt, long, a.1) in
        x.ordinals i ∙ not_marked (is_marked l.marks) (size_of l) i old.lane.inside a.1
        ∙ sym (not_marked (is_marked t.marks) (count t) (count t) h.within (omega arith)) ∙ sym (x.same (count t)) ∙ ap (is_marked new.marks) (sym (ap (place_at m) e ∙ new_place))
    told i lt (inr a) = x.ordinals i ∙ old.told i a.1 ∙ sym (x.same (place_at l i)) ∙ ap (is_marked new.marks) (sym (old_place i a.1))

    shown : (i : ℕ) → i < size_of m → ((leb (size_of l) i ≡ true) × (size_of l ≤ i)) ⊎ ((leb (size_of l) i ≡ false) × (i < size_of l)) → is_marked new.fronts (place_at m i) ≡ is_front m i
    shown i lt (inl a) =
        let e : i ≡ size_of l = omega (arith, lt, long, a.1) in
        ap (is_marked new.fronts) (ap (place_at m) e ∙ new_place) ∙ x.front_same (count t) ∙ not_marked (is_marked t.fronts) (count t) (count t) h.fronts_within (omega arith)
        ∙ sym no_front ∙ ap (is_front l) (sym e) ∙ sym (same_front i)
    shown i lt (inr a) = ap (is_marked new.fronts) (old_place i a.1) ∙ x.front_same (place_at l i) ∙ old.shown i a.1 ∙ sym (same_front i)

    here : IsLaneOf new k m
    here = record {
      lane = x.lane;
      within = λ i lt. within i lt (leb_tells (size_of l) i);
      spots = λ i lt. spots i lt (leb_tells (size_of l) i);
      told = λ i lt. told i lt (leb_tells (size_of l) i);
      shown = λ i lt. shown i lt (leb_tells (size_of l) i);
    }

    by : (j : ℕ) (n : Lane) → ((j ≡ k) × (m ≡ n)) ⊎ ((j ≢ k) × (slice_get t.lanes.items j ≡ Some n)) → IsLaneOf new j n
    by j n (inl a) = subst (λ i. IsLaneOf new i n) (sym a.0) (subst (IsLaneOf new k) a.1 here)
    by j n (inr a) =
        let g = h.lanes j n a.1 in
        record {
          lane = g.lane;
          within = λ i lt. let r = g.within i lt in omega (arith, r, size);
          spots = λ i lt. old_spot (place_at n i) (g.within i lt) ∙ g.spots i lt;
          told = λ i lt. g.told i lt ∙ sym (x.same (place_at n i));
          shown = λ i lt. x.front_same (place_at n i) ∙ g.shown i lt;
        }

    put_lane : (j : ℕ) → slice_get new.lanes.items j ≡ slice_get (set t.lanes.items k m) j
    put_lane j = ap (λ xs. slice_get xs j) x.lanes

    set_lane : slice_get (set t.lanes.items k m) k ≡ Some m
    set_lane = set_here t.lanes.items k m (within_get t.lanes.items k l x.here)

    stand_old : (p : ℕ) → p < count t → ((eqb (lane_of t p) k ≡ true) × (lane_of t p ≡ k)) ⊎ ((eqb (lane_of t p) k ≡ false) × (lane_of t p ≢ k)) → Stands (slice_get new.lanes.items (lane_of t p)) (spot_at t p).ordinal p
    stand_old p lt (inl a) =
        let found : slice_get new.lanes.items (lane_of t p) ≡ Some m = ap (slice_get new.lanes.items) a.1 ∙ put_lane k ∙ set_lane in
        let s = stands_so (lane_at t (lane_of t p)) l (spot_at t p).ordinal p (ap (lane_at t) a.1 ∙ x.here) (h.spots p lt) in
        subst (λ o. Stands o (spot_at t p).ordinal p) (sym found) (omega (arith, s.0, long), old_place (spot_at t p).ordinal s.0 ∙ s.1)
    stand_old p lt (inr a) = subst (λ o. Stands o (spot_at t p).ordinal p) (sym (put_lane (lane_of t p) ∙ set_other t.lanes.items k (lane_of t p) m a.1)) (h.spots p lt)

    stand : (p : ℕ) → p < count new → ((leb (count t) p ≡ true) × (count t ≤ p)) ⊎ ((leb (count t) p ≡ false) × (p < count t)) → Stands (lane_at new (lane_of new p)) (spot_at new p).ordinal p
    stand p lt (inl a) =
        let e : p ≡ count t = omega (arith, lt, size, a.1) in
        let s : spot_at new p ≡ spot k (size_of l) = ap (spot_at new) e ∙ new_spot in
        subst (λ (y : Spot). Stands (lane_at new y.lane) y.ordinal p) (sym s)
        (subst (λ o. Stands o (size_of l) p) (sym (put_lane k ∙ set_lane)) (omega (arith, long), new_place ∙ sym e))
    stand p lt (inr a) = subst (λ (y : Spot). Stands (lane_at new y.lane) y.ordinal p) (sym (old_spot p a.1)) (stand_old p a.1 (eqb_tells (lane_of t p) k))

pub placed : (t new : Lanes) (k ordinal : ℕ) → new.spots.items ≡ t.spots.items ++ spot k ordinal ∷ [] → IsGrown k t new
placed t new k ordinal e = record {
  more = ap (λ s. length s) e ∙ length-append t.spots.items (spot k ordinal ∷ []);
  here = ap (λ s. (slice_index_or s (count t) (spot 0 0)).lane) e ∙ ap (λ (y : Spot). y.lane) (read_last t.spots.items (spot k ordinal) (spot 0 0));
  others = λ p lt. ap (λ s. (slice_index_or s p (spot 0 0)).lane) e ∙ ap (λ (y : Spot). y.lane) (read_left t.spots.items (spot k ordinal) (spot 0 0) p lt);
}

pub on_err : {T E : Type 0} (r : Result T E) (P : Type 0) → P → OnErr r P
on_err (Ok x) P p = tt
on_err (Err e) P p = p

-- the same lane over the same fronts
pub shown_still : (l m : Lane) (old new : Marks) → m.places.items ≡ l.places.items → m.closed ≡ l.closed → SameMarks l.marks m.marks → SameMarks old new → AreShown l old → AreShown m new
shown_still l m old new places closed ordinals same shown i lt =
    ap (is_marked new) place ∙ same (place_at l i) ∙ shown i (omega (arith, lt, size)) ∙ sym (λ j. not (closed j) && is_first (λ q. ordinals q j) i)
  where
    size : size_of m ≡ size_of l
    size = ap (λ s. length s) places

    place : place_at m i ≡ place_at l i
    place = ap (λ s. slice_index_or s i 0) places
