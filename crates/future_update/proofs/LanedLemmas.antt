-- Edges in the lanes of their receivers, and which activities are out.
use Rattle.std.proofs.Common.{◌≡◌, ◌≢◌, ◌⊎◌, inl, inr, ℕ, zero, suc, ◌+◌, ◌<◌, ◌≤◌, Bool, true, false, eqb, List, [], ◌∷◌, ◌++◌, Option, Some, length, map, refl, sym, ap, ◌∙◌, subst, arith, length-append}
use Rattle.std.specs.Prelude.{◌||◌, ◌&&◌, ◌==◌, not, leb, slice_get, slice_index_or}
use Rattle.std.specs.List.{AllByRecursion, list_any}
use Rattle.std.proofs.lemmas.Bool.Decides.{eqb_tells, leb_tells}
use Rattle.std.proofs.lemmas.List.{get_or_append_left, get_or_push, map-append}
use Rattle.std.proofs.lemmas.List.Folds.{list_any-append}
use Rattle.asp_model.specs.Names.{Name, same_name}
use Rattle.asp_model.specs.Order.{same_name_same}
use Rattle.future_update.specs.declared.numbered.Edge.{Edge}
use Rattle.future_update.specs.Names.{AreNames, IsKnownEdge, Keeps, name_of}
use Rattle.future_update.specs.Numbered.{edge_at, no_edge}
use Rattle.future_update.specs.Records.{names_of, owes}
use Rattle.future_update.proofs.NameLemmas.{clash, name_itself}
use Rattle.future_update.proofs.NumberLemmas.{all_at, all_more, same_names, truth}
use Rattle.future_update.proofs.RecordLemmas.{edges_known}
use Rattle.future_update.proofs.PlaceLemmas.{edge_stands}
use Rattle.core_sets.specs.declared.lanes.Lanes.{Lanes}
use Rattle.core_sets.specs.Firsts.{IsFirstFrom}
use Rattle.core_sets.specs.Lanes.{AreLanes, ClosedSo, IsGrown, KeepsLanes, SameClosed, count, is_closed, is_open, lane_count, lane_of, spot}
use Rattle.core_sets.specs.Ticks.{is_among}
use Rattle.future_update.specs.declared.holders.Holders.TheInside.{Inside}
use Rattle.future_update.specs.Holders.{edge_in, is_met, is_number, is_out, is_receiver_out, owed_to_one_in}
use Rattle.future_update.specs.Kept.{AreHolders, AreLaned, IsMember, activity_entry, view_of}
use Rattle.future_update.proofs.SettlingLemmas.{either_false, owed_within}

pub keeps_same : (ns ms : List Name) → ms ≡ ns → Keeps ns ms
keeps_same ns ms e = subst (Keeps ns) (sym e) (record { more = omega arith; same = λ k lt. refl })

pub keeps_on : (ns ms ls : List Name) → Keeps ns ms → ls ≡ ms → Keeps ns ls
keeps_on ns ms ls h e = subst (Keeps ns) (sym e) h

pub keeps_lanes : (t : Lanes) → AreLanes t → KeepsLanes t t
keeps_lanes t h = record { lanes = h; spots = refl; closed = λ k. refl; more = omega arith }

pub lanes_on : (t u v : Lanes) → KeepsLanes t u → KeepsLanes u v → KeepsLanes t v
lanes_on t u v first then = record {
  lanes = then.lanes;
  spots = then.spots ∙ first.spots;
  closed = λ k. then.closed k ∙ first.closed k;
  more = omega (arith, first.more, then.more);
}

pub members_more : (ns ms : List Name) (t u : Lanes) (ks : List ℕ) → length ns ≤ length ms → lane_count t ≤ lane_count u → AllByRecursion (IsMember ns t) ks → AllByRecursion (IsMember ms u) ks
members_more ns ms t u [] more lanes all = tt
members_more ns ms t u (k ∷ ks) more lanes all = ((omega (arith, all.0.0, more), omega (arith, all.0.1, lanes)), members_more ns ms t u ks more lanes all.1)

-- the edges stay, and so do the lanes that are closed
pub moved : (ns ms : List Name) (es fs : List Edge) (ks : List ℕ) (t u : Lanes) → AreLaned ns es ks t → Keeps ns ms → fs ≡ es → KeepsLanes t u → AreLaned ms fs ks u
moved ns ms es fs ks t u h names edges same = record {
  lanes = same.lanes;
  size = ap (λ s. length s) same.spots ∙ h.size ∙ ap (λ (xs : List Edge). length xs) (sym edges);
  lane = λ p lt. ap (λ s. (slice_index_or s p (spot 0 0)).lane) same.spots ∙ h.lane p (subst (λ (xs : List Edge). p < length xs) edges lt) ∙ ap (λ (xs : List Edge). (edge_at xs p).to) (sym edges);
  members = members_more ns ms t u ks names.more same.more h.members;
  closed = λ k e. h.closed k (sym (same.closed k) ∙ e);
}

-- one more edge
pub grown_laned : (ns : List Name) (es fs : List Edge) (ks : List ℕ) (t u : Lanes) (x : Edge) → AreLaned ns es ks t → AreLanes u → IsGrown x.to t u → SameClosed t u → lane_count t ≤ lane_count u → fs ≡ es ++ x ∷ [] → AreLaned ns fs ks u
grown_laned ns es fs ks t u x h lanes grown closed more edges = record {
  lanes = lanes;
  size = omega (arith, long, grown.more, h.size);
  lane = λ p lt. by p (omega (arith, lt, long)) (leb_tells (length es) p);
  members = members_more ns ns t u ks (omega arith) more h.members;
  closed = λ k e. h.closed k (sym (closed k) ∙ e);
}
  where
    long : length fs ≡ length es + 1
    long = ap (λ (xs : List Edge). length xs) edges ∙ length-append es (x ∷ [])

    by : (p : ℕ) → p < length es + 1 → ((leb (length es) p ≡ true) × (length es ≤ p)) ⊎ ((leb (length es) p ≡ false) × (p < length es)) → lane_of u p ≡ (edge_at fs p).to
    by p lt (inl a) =
        let same : length es ≡ p = omega (arith, lt, a.1) in
        let here : count t ≡ p = h.size ∙ same in
        ap (lane_of u) (sym here) ∙ grown.here ∙ ap (λ (y : Edge). y.to) (sym (ap (λ (xs : List Edge). edge_at xs p) edges ∙ get_or_push es x no_edge p same))
    by p lt (inr a) =
        grown.others p (omega (arith, a.1, h.size)) ∙ h.lane p a.1
        ∙ ap (λ (y : Edge). y.to) (sym (ap (λ (xs : List Edge). edge_at xs p) edges ∙ get_or_append_left es (x ∷ []) no_edge p a.1))

-- one more activity that was met
pub member_laned : (ns : List Name) (es : List Edge) (ks js : List ℕ) (t : Lanes) (k : ℕ) → AreLaned ns es ks t → k < length ns → k < lane_count t → js ≡ ks ++ k ∷ [] → AreLaned ns es js t
member_laned ns es ks js t k h known lane more = record {
  lanes = h.lanes;
  size = h.size;
  lane = h.lane;
  members = subst (AllByRecursion (IsMember ns t)) (sym more) (all_more (IsMember ns t) ks k h.members (known, lane));
  closed = λ i e. ap (is_among i) more ∙ list_any-append (λ j. i == j) ks (k ∷ []) ∙ ap (λ b. b || list_any (λ j. i == j) (k ∷ [])) (h.closed i e);
}

-- a lane of an activity that was met is closed or opened
pub turned_laned : (ns : List Name) (es : List Edge) (ks : List ℕ) (t u : Lanes) (lane : ℕ) (out : Bool) → AreLaned ns es ks t → AreLanes u → u.spots ≡ t.spots → lane_count u ≡ lane_count t → ClosedSo lane out t u → is_among lane ks ≡ true → AreLaned ns es ks u
turned_laned ns es ks t u lane out h lanes spots same closed member = record {
  lanes = lanes;
  size = ap (λ s. length s.items) spots ∙ h.size;
  lane = λ p lt. ap (λ s. (slice_index_or s.items p (spot 0 0)).lane) spots ∙ h.lane p lt;
  members = members_more ns ns t u ks (omega arith) (omega (arith, same)) h.members;
  closed = λ k e. by k e (eqb_tells k lane);
}
  where
    by : (k : ℕ) → is_closed u k ≡ true → ((eqb k lane ≡ true) × (k ≡ lane)) ⊎ ((eqb k lane ≡ false) × (k ≢ lane)) → is_among k ks ≡ true
    by k e (inl a) = ap (λ j. is_among j ks) a.1 ∙ member
    by k e (inr a) = h.closed k (sym (closed k ∙ ap (λ b. elim b [ true ↦ out | false ↦ is_closed t k ]) a.0) ∙ e)

-- What is seen of the activities

pub activities_same : (ns ms : List Name) (t u : Lanes) (ks : List ℕ) → AllByRecursion (IsMember ns t) ks → Keeps ns ms → SameClosed t u → map (activity_entry ms u) ks ≡ map (activity_entry ns t) ks
activities_same ns ms t u [] all names closed = refl
activities_same ns ms t u (k ∷ ks) all names closed = λ i. (names.same k all.0.0 i, closed k i) ∷ activities_same ns ms t u ks all.1 names closed i

-- who was not met has no lane among theirs
pub not_among : (ns ms : List Name) (t : Lanes) (a : Name) (k : ℕ) (ks : List ℕ) → AllByRecursion (IsMember ns t) ks → Keeps ns ms → name_of ms k ≡ a → is_met a (map (activity_entry ns t) ks) ≡ false → is_among k ks ≡ false
not_among ns ms t a k [] all names e unmet = refl
not_among ns ms t a k (j ∷ js) all names e unmet = by (eqb_tells k j) (either_false (same_name a (name_of ns j)) (is_met a (map (activity_entry ns t) js)) unmet) (not_among ns ms t a k js all.1 names e)
  where
    by : ((eqb k j ≡ true) × (k ≡ j)) ⊎ ((eqb k j ≡ false) × (k ≢ j)) → (same_name a (name_of ns j) ≡ false) × (is_met a (map (activity_entry ns t) js) ≡ false) → (is_met a (map (activity_entry ns t) js) ≡ false → is_among k js ≡ false) → ((k == j) || is_among k js) ≡ false
    by (inl x) p rest =
        let same : a ≡ name_of ns j = sym e ∙ ap (name_of ms) x.1 ∙ names.same j all.0.0 in
        clash (ap (λ n. same_name n (name_of ns j)) same ∙ name_itself (name_of ns j)) p.0
    by (inr x) p rest = λ i. x.0 i || rest p.1 i

-- the new one is in
pub met_entries : (ns ms : List Name) (es : List Edge) (t u : Lanes) (a : Name) (k : ℕ) (ks js : List ℕ) → AreLaned ns es ks t → Keeps ns ms → SameClosed t u → name_of ms k ≡ a → is_met a (map (activity_entry ns t) ks) ≡ false → js ≡ ks ++ k ∷ [] → map (activity_entry ms u) js ≡ map (activity_entry ns t) ks ++ (a, false) ∷ []
met_entries ns ms es t u a k ks js h names closed e unmet more =
    ap (map (activity_entry ms u)) more ∙ map-append (activity_entry ms u) ks (k ∷ [])
    ∙ (λ i. activities_same ns ms t u ks h.members names closed i ++ (e i, is_in i) ∷ [])
  where
    is_in : is_closed u k ≡ false
    is_in = closed k ∙ truth (is_closed t k) (λ c. clash (h.closed k c) (not_among ns ms t a k ks h.members names e unmet))

-- an activity that was met is out where its lane is closed
among_closed : (ns : List Name) → AreNames ns → (t u : Lanes) (k : ℕ) (ks : List ℕ) → k < length ns → AllByRecursion (IsMember ns t) ks → is_out (name_of ns k) (map (activity_entry ns u) ks) ≡ (is_among k ks && is_closed u k)
among_closed ns names t u k [] known all = refl
among_closed ns names t u k (j ∷ js) known all =
    (λ i. (same_names ns names k j known all.0.0 i && is_closed u j) || among_closed ns names t u k js known all.1 i) ∙ by (eqb_tells k j)
  where
    joined : (c m : Bool) → (c || (m && c)) ≡ c
    joined true m = refl
    joined false true = refl
    joined false false = refl

    by : ((eqb k j ≡ true) × (k ≡ j)) ⊎ ((eqb k j ≡ false) × (k ≢ j)) → ((eqb k j && is_closed u j) || (is_among k js && is_closed u k)) ≡ (((k == j) || is_among k js) && is_closed u k)
    by (inl a) = (λ i. (a.0 i && is_closed u (sym a.1 i)) || (is_among k js && is_closed u k)) ∙ joined (is_closed u k) (is_among k js) ∙ sym (ap (λ b. (b || is_among k js) && is_closed u k) a.0)
    by (inr a) = ap (λ b. (b && is_closed u j) || (is_among k js && is_closed u k)) a.0 ∙ sym (ap (λ b. (b || is_among k js) && is_closed u k) a.0)

pub out_closed : (ns : List Name) (es : List Edge) (ks : List ℕ) (t : Lanes) (k : ℕ) → AreNames ns → AreLaned ns es ks t → k < length ns → is_out (name_of ns k) (map (activity_entry ns t) ks) ≡ is_closed t k
out_closed ns es ks t k names h known = among_closed ns names t t k ks known h.members ∙ by (is_closed t k) refl
  where
    by : (b : Bool) → is_closed t k ≡ b → (is_among k ks && b) ≡ b
    by true e = ap (λ a. a && true) (h.closed k e)
    by false e = last (is_among k ks)
      where
        last : (a : Bool) → (a && false) ≡ false
        last true = refl
        last false = refl

-- One activity goes out, or comes in

pub same_activities : (ns : List Name) (t u : Lanes) (ks : List ℕ) → map (λ (x : Name × Bool). x.0) (map (activity_entry ns u) ks) ≡ map (λ (x : Name × Bool). x.0) (map (activity_entry ns t) ks)
same_activities ns t u [] = refl
same_activities ns t u (k ∷ ks) = λ i. name_of ns k ∷ same_activities ns t u ks i

others_out : (ns : List Name) (t u : Lanes) (lane : ℕ) (out : Bool) (n : Name) (ks : List ℕ) → ClosedSo lane out t u → same_name n (name_of ns lane) ≡ false → is_out n (map (activity_entry ns u) ks) ≡ is_out n (map (activity_entry ns t) ks)
others_out ns t u lane out n [] closed other = refl
others_out ns t u lane out n (k ∷ ks) closed other = λ i. by (eqb_tells k lane) i || others_out ns t u lane out n ks closed other i
  where
    by : ((eqb k lane ≡ true) × (k ≡ lane)) ⊎ ((eqb k lane ≡ false) × (k ≢ lane)) → (same_name n (name_of ns k) && is_closed u k) ≡ (same_name n (name_of ns k) && is_closed t k)
    by (inl a) = let no : same_name n (name_of ns k) ≡ false = ap (λ j. same_name n (name_of ns j)) a.1 ∙ other in ap (λ b. b && is_closed u k) no ∙ sym (ap (λ b. b && is_closed t k) no)
    by (inr a) = ap (λ c. same_name n (name_of ns k) && c) (closed k ∙ ap (λ b. elim b [ true ↦ out | false ↦ is_closed t k ]) a.0)

pub turned_out : (ns : List Name) (t u : Lanes) (lane : ℕ) (out : Bool) (ks : List ℕ) → AreNames ns → AllByRecursion (IsMember ns t) ks → lane < length ns → ClosedSo lane out t u → is_among lane ks ≡ true → (n : Name) → is_out n (map (activity_entry ns u) ks) ≡ elim (same_name n (name_of ns lane)) [ true ↦ out | false ↦ is_out n (map (activity_entry ns t) ks) ]
turned_out ns t u lane out ks names members known closed member n = by (same_name n (name_of ns lane)) refl
  where
    now_out : is_closed u lane ≡ out
    now_out = elim (eqb_tells lane lane) [
      | inl a ↦ closed lane ∙ ap (λ b. elim b [ true ↦ out | false ↦ is_closed t lane ]) a.0
      | inr a ↦ absurd (a.1 refl)
    ]

    by : (b : Bool) → same_name n (name_of ns lane) ≡ b → is_out n (map (activity_entry ns u) ks) ≡ elim b [ true ↦ out | false ↦ is_out n (map (activity_entry ns t) ks) ]
    by true e = ap (λ m. is_out m (map (activity_entry ns u) ks)) (same_name_same n (name_of ns lane) e) ∙ among_closed ns names t u lane ks known members ∙ (λ i. member i && now_out i)
    by false e = others_out ns t u lane out n ks closed e

-- the lane of a number
pub number_among : (ks : List ℕ) (number lane : ℕ) → slice_get ks number ≡ Some lane → is_among lane ks ≡ true
number_among [] number lane e = cc
number_among (k ∷ ks) zero lane e = elim (eqb_tells lane k) [
  | inl a ↦ ap (λ b. b || is_among lane ks) a.0
  | inr a ↦ let same : k ≡ lane = cc in absurd (a.1 (sym same))
]
number_among (k ∷ ks) (suc number) lane e = by (lane == k) (number_among ks number lane e)
  where
    by : (b : Bool) → is_among lane ks ≡ true → (b || is_among lane ks) ≡ true
    by true m = refl
    by false m = m

pub number_named : (ns : List Name) (t : Lanes) (n : Name) (ks : List ℕ) (number lane : ℕ) → slice_get ks number ≡ Some lane → is_number n number (map (activity_entry ns t) ks) ≡ same_name n (name_of ns lane)
number_named ns t n [] number lane e = cc
number_named ns t n (k ∷ ks) zero lane e = let same : k ≡ lane = cc in ap (λ j. same_name n (name_of ns j)) same
number_named ns t n (k ∷ ks) (suc number) lane e = number_named ns t n ks number lane e

pub member_known : (P : ℕ → Type 0) (ks : List ℕ) (number lane : ℕ) → slice_get ks number ≡ Some lane → AllByRecursion P ks → P lane
member_known P [] number lane e all = cc
member_known P (k ∷ ks) zero lane e all = let same : k ≡ lane = cc in subst P same all.0
member_known P (k ∷ ks) (suc number) lane e all = member_known P ks number lane e all.1

-- What is owed to one that is in

pub open_owed : (s : Inside) → AreHolders s → (p : ℕ) → is_open s.owed p ≡ owed_to_one_in (view_of s) p
open_owed s h p = by (leb_tells (length s.records.edges.keys) p)
  where
    ns : List Name
    ns = names_of s.records

    by : ((leb (length s.records.edges.keys) p ≡ true) × (length s.records.edges.keys ≤ p)) ⊎ ((leb (length s.records.edges.keys) p ≡ false) × (p < length s.records.edges.keys)) → is_open s.owed p ≡ owed_to_one_in (view_of s) p
    by (inl a) =
        let none : owes s.records p ≡ false = truth (owes s.records p) (λ e. beyond (owed_within s.records p e) a.1) in
        ap (λ b. b && not (is_closed s.owed (lane_of s.owed p))) (h.owed p ∙ none) ∙ sym (ap (λ b. b && not (is_receiver_out (view_of s) (edge_in (view_of s) p))) none)
      where
        beyond : {n q : ℕ} → q < n → n ≤ q → ⊥
        beyond lt le = omega (arith, lt, le)
    by (inr a) =
        let k : ℕ = (edge_at s.records.edges.keys p).to in
        let known = (all_at (IsKnownEdge ns) s.records.edges.keys p no_edge a.1 (edges_known s.records h.records)).to in
        let out : is_receiver_out (view_of s) (edge_in (view_of s) p) ≡ is_closed s.owed (lane_of s.owed p) = ap (is_receiver_out (view_of s)) (edge_stands s.records p a.1) ∙ out_closed ns s.records.edges.keys s.activities.items s.owed k h.records.names h.laned known ∙ ap (is_closed s.owed) (sym (h.laned.lane p a.1)) in
        λ i. h.owed p i && not (sym out i)

pub first_owed : (s : Inside) → AreHolders s → (o : Option ℕ) → IsFirstFrom (is_open s.owed) 0 o → IsFirstFrom (owed_to_one_in (view_of s)) 0 o
first_owed s h o first = subst (λ (f : ℕ → Bool). IsFirstFrom f 0 o) (λ i p. open_owed s h p i) first
