-- What a step leaves and gives is closed.
use Rattle.std.specs.Prelude.{◌≡◌, ℕ, suc, ◌<◌, ◌≤◌, List, [], ◌∷◌, ◌++◌, Option, Some, None, length, slice_get, is_some}
use Rattle.std.proofs.Common.{refl, sym, subst, arith, length-append}
use Rattle.asp_model.specs.Names.{Name, FutureShape, Text, created_name}
use Rattle.asp_model.specs.Term.{Head, Tree, leaf, none, Call, Make, WaitAll, Get, Put, Clone, Active, If, Operate, Print, Scatter, Size, Member, loc, locations, locations_below, own_locations}
use Rattle.asp_model.specs.Split.{Context, Redex, Split, Stands, Splits, split, plug}
use Rattle.asp_model.specs.Store.{CellShape, Number, Object, Reference, Future, Group, Store, cell, reached}
use Rattle.asp_model.specs.Parcel.{ParcelShape, parcel_of, unpack, unpacked_roots}
use Rattle.asp_model.specs.Contraction.{Contraction, Becomes, Faults, Needs, Communicates, Breaks, Creates, Sends, Serves, Polls, truth, contract, first_of, strict_operands, strict_members, members_of, members_at}
use Rattle.asp_model.specs.Chase.{Chase, Value, Unfilled, Cycle}
use Rattle.asp_model.specs.Configuration.{RequestShape, ServiceShape, ReceptionShape, Poll, Activity, begun}
use Rattle.asp_model.specs.Intent.{Intent, Acts, Rests, Awaits, Effect, Ready, Reads, Lacks, fetched, operand_ready, operands_ready, redex_ready, start_term, creates, sends, polls, Numbered, oldest_match, labels_served, serves, newest, but_newest, filling, ends_service, contracts, intent}
use Rattle.law_steps.specs.Linked.{Each}
use Rattle.law_steps.specs.Closed.{AreBelow, IsClosedStore, IsClosedParcel, IsClosedValue, ContextsBelow, SplitBelow, places_round, places_of, IsClosedActivity}
use Rattle.law_chases.proofs.FutureLemmas.{no_some, some_is}
use Rattle.law_steps.proofs.FactLemmas.{match_is}
use Rattle.law_steps.proofs.EachLemmas.{each_both, each_weaker, below_more}
use Rattle.law_steps.proofs.MovedLemmas.{cell_below, allotted, unpacked_closed, unpacked_length, unpacked_roots_below, unpacked_at_closed}
use Rattle.law_steps.proofs.VisitLemmas.{packed_closed, value_closed}
use Rattle.law_steps.proofs.PlacesLemmas.{front, back, locs_below, split_is_below, plug_below}
use Rattle.law_steps.proofs.RowLemmas.{Closes, contract_closes}

-- Strict operands

first_below : (k : ℕ) (ns : List ℕ) → AreBelow k ns → AreBelow k (first_of ns)
first_below k [] h = tt
first_below k (n ∷ ns) h = (h.0, tt)

pub operands_below : (k : ℕ) (h : Head) (ns : List ℕ) → AreBelow k ns → AreBelow k (strict_operands h ns)
operands_below k (Get l) ns a = a
operands_below k (Put l) ns a = first_below k ns a
operands_below k (Call l) ns a = first_below k ns a
operands_below k Clone ns a = a
operands_below k (Active service) ns a = a
operands_below k If ns a = a
operands_below k (Operate sign) ns a = a
operands_below k Print ns a = a
operands_below k (Scatter l) ns a = a
operands_below k Size ns a = a
operands_below k Member ns a = a
operands_below k WaitAll ns a = a
operands_below k h ns a = tt

members_below : (k : ℕ) (c : CellShape) → AreBelow k (reached c) → AreBelow k (members_of c)
members_below k (Group ns) h = h
members_below k c h = tt

first_members : (s : Store) (ns : List ℕ) → IsClosedStore s → AreBelow (length s) (members_at s ns)
first_members s [] h = tt
first_members s (n ∷ ns) h = members_below (length s) (cell s n) (cell_below (length s) s h n)

pub waited_below : (s : Store) (h : Head) (ns : List ℕ) → IsClosedStore s → AreBelow (length s) (strict_members s h ns)
waited_below s WaitAll ns k = first_members s ns k
waited_below s h ns k = tt

-- Readings

abbrev pub ReadsClosed : (FutureShape → Chase) → Type 0
ReadsClosed chases = (f y : FutureShape) (p : ParcelShape) → chases f ≡ Value y p → IsClosedParcel p

-- the store that is read is closed, and no shorter than n
abbrev pub IsReadFrom : ℕ → Ready → Type 0
IsReadFrom n (Reads t) = IsClosedStore t × (n ≤ length t)
IsReadFrom n (Lacks f) = Unit {0}

module _ (chases : FutureShape → Chase) (read : ReadsClosed chases) where
  fetched_closed : (s : Store) (n : ℕ) (f : FutureShape) (c : Chase) → chases f ≡ c → n < length s → IsClosedStore s → IsReadFrom (length s) (fetched s n c)
  fetched_closed s n f (Value y p) is lt h = unpacked_at_closed s n p.cells p.roots lt h (read f y p is).cells
  fetched_closed s n f (Unfilled x) is lt h = tt
  fetched_closed s n f (Cycle x) is lt h = tt

  operand_closed : (s : Store) (n : ℕ) (c : CellShape) → n < length s → IsClosedStore s → IsReadFrom (length s) (operand_ready chases s n c)
  operand_closed s n (Future f) lt h = fetched_closed s n f (chases f) refl lt h
  operand_closed s n (Number z) lt h = (h, omega arith)
  operand_closed s n (Object fields methods) lt h = (h, omega arith)
  operand_closed s n (Reference m) lt h = (h, omega arith)
  operand_closed s n (Group ns) lt h = (h, omega arith)

  then_closed : (m : ℕ) (next : Store → Ready) → ((t : Store) → IsClosedStore t → m ≤ length t → IsReadFrom (length t) (next t)) → (r : Ready) → IsReadFrom m r → IsReadFrom m (elim r [ Reads t ↦ next t | Lacks f ↦ Lacks f ])
  then_closed m next to (Reads t) h = longer (next t) h.1 (to t h.0 h.1)
    where
      longer : (r : Ready) → m ≤ length t → IsReadFrom (length t) r → IsReadFrom m r
      longer (Reads u) le k = (k.0, omega (arith, le, k.1))
      longer (Lacks f) le k = tt
  then_closed m next to (Lacks f) h = tt

  operands_closed : (ns : List ℕ) (s : Store) → AreBelow (length s) ns → IsClosedStore s → IsReadFrom (length s) (operands_ready chases s ns)
  operands_closed [] s a h = (h, omega arith)
  operands_closed (n ∷ ns) s a h = then_closed (length s) (λ t. operands_ready chases t ns) (λ t k le. operands_closed ns t (below_more (length s) (length t) le ns a.1) k) (operand_ready chases s n (cell s n)) (operand_closed s n (cell s n) a.0 h)

  pub redex_closed : (s : Store) (r : Redex) → AreBelow (length s) r.places → IsClosedStore s → IsReadFrom (length s) (redex_ready chases s r)
  redex_closed s r a h = then_closed (length s) (λ t. operands_ready chases t (strict_members t r.head r.places)) (λ t k le. operands_closed (strict_members t r.head r.places) t (waited_below t r.head r.places k) k) (operands_ready chases s (strict_operands r.head r.places)) (operands_closed (strict_operands r.head r.places) s (operands_below (length s) r.head r.places a) h)

-- Effects

pub record IsClosedEffect (e : Effect) : Type 0 where
  pub own : IsClosedActivity e.own
  pub made : (z : Name × Activity) → e.made ≡ Some z → IsClosedActivity z.1
  pub sent : (z : Name × RequestShape) → e.sent ≡ Some z → IsClosedParcel z.1.arguments
  pub filled : (z : FutureShape × ParcelShape) → e.filled ≡ Some z → IsClosedValue z.1

abbrev pub ClosedIntent : Intent → Type 0
ClosedIntent (Acts e) = IsClosedEffect e
ClosedIntent (Rests status) = Unit {0}

contexts_more : (j k : ℕ) → j ≤ k → (cs : List Context) → ContextsBelow j cs → ContextsBelow k cs
contexts_more j k le = each_weaker (λ x. AreBelow j (places_round x)) (λ x. AreBelow k (places_round x)) (λ x. below_more j k le (places_round x))

pub services_more : (j k : ℕ) → j ≤ k → (vs : List ServiceShape) → Each (λ v. ContextsBelow j v.contexts) vs → Each (λ v. ContextsBelow k v.contexts) vs
services_more j k le = each_weaker (λ v. ContextsBelow j v.contexts) (λ v. ContextsBelow k v.contexts) (λ v. contexts_more j k le v.contexts)

alone_closed : (a : Activity) (l : Option (Name × ReceptionShape)) → IsClosedActivity a → IsClosedEffect (record { own = a; sent = None; logged = l; made = None; filled = None })
alone_closed a l h = record { own = h; made = λ z e. no_some e; sent = λ z e. no_some e; filled = λ z e. no_some e }

-- an activity that goes on with a term in contexts, over a store that is no shorter
going_on : (a : Activity) (contexts : List Context) (t : Tree) (s : Store) → IsClosedActivity a → IsClosedStore s → length a.store ≤ length s → ContextsBelow (length a.store) contexts → AreBelow (length s) (locations t) → (b : Activity) → b.term ≡ plug contexts t → b.store ≡ s → b.services ≡ a.services → b.active ≡ a.active → IsClosedActivity b
going_on a contexts t s h k le round g b term store services active = record {
  term = subst (λ u. AreBelow (length u) (locations b.term)) (sym store) (subst (λ u. AreBelow (length s) (locations u)) (sym term) (plug_below (length s) contexts t (contexts_more (length a.store) (length s) le contexts round) g));
  services = subst (λ u. Each (λ v. ContextsBelow (length u) v.contexts) b.services) (sym store) (subst (Each (λ v. ContextsBelow (length s) v.contexts)) (sym services) (services_more (length a.store) (length s) le a.services h.services));
  store = subst IsClosedStore (sym store) k;
  active = subst (λ u. b.active < length u) (sym store) (omega (arith, h.active, le, active));
}

pub first_root : (p : ParcelShape) → IsClosedValue p → 0 < length p.cells
first_root p h = let x : AreBelow (length p.cells) (0 ∷ []) = subst (AreBelow (length p.cells)) h.root h.closed.roots in x.0

start_below : (k : ℕ) (service : Option Text) → 0 < k → AreBelow k (locations (start_term service 0))
start_below k None lt = tt
start_below k (Some l) lt = (lt, tt)

begun_closed : (service : Option Text) (p : ParcelShape) → IsClosedValue p → IsClosedActivity (begun (start_term service 0) (unpack [] p))
begun_closed service p h =
    let lt : 0 < length (unpack [] p) = omega (arith, first_root p h, unpacked_length [] p) in
    record { term = start_below (length (unpack [] p)) service lt; services = tt; store = unpacked_closed [] p tt h.closed.cells; active = lt }

newest_below : (k : ℕ) (vs : List ServiceShape) (v : ServiceShape) → newest vs ≡ Some v → Each (λ v. ContextsBelow k v.contexts) vs → ContextsBelow k v.contexts
newest_below k [] v e h = no_some e
newest_below k (x ∷ []) v e h = subst (λ v. ContextsBelow k v.contexts) (some_is e) h.0
newest_below k (x ∷ y ∷ vs) v e h = newest_below k (y ∷ vs) v e h.1

others_below : (k : ℕ) (vs : List ServiceShape) → Each (λ v. ContextsBelow k v.contexts) vs → Each (λ v. ContextsBelow k v.contexts) (but_newest vs)
others_below k [] h = tt
others_below k (x ∷ []) h = tt
others_below k (x ∷ y ∷ vs) h = (h.0, others_below k (y ∷ vs) h.1)

filled_closed : (o : Option FutureShape) (p : ParcelShape) → IsClosedValue p → (z : FutureShape × ParcelShape) → filling o p ≡ Some z → IsClosedValue z.1
filled_closed None p h z e = no_some e
filled_closed (Some f) p h z e = subst (λ u. IsClosedValue u.1) (some_is e) h

one_longer : (s : Store) (c : CellShape) → length (s ++ c ∷ []) ≡ suc (length s)
one_longer s c = omega (arith, length-append s (c ∷ []))

module _ (requests : List RequestShape) (received : (k : ℕ) (r : RequestShape) → slice_get requests k ≡ Some r → IsClosedParcel r.arguments) (n : Name) (a : Activity) (h : IsClosedActivity a) where
  creates_closed : (contexts : List Context) (s : Store) (object : ℕ) (service : Option Text) → IsClosedStore s → length a.store ≤ length s → ContextsBelow (length a.store) contexts → object < length s → ClosedIntent (creates n a contexts s object service)
  creates_closed contexts s object service k le round lt =
      let c : CellShape = Reference (created_name n (suc a.creations)) in
      let e = one_longer s c in
      record {
        own = going_on a contexts (loc (length s)) (s ++ c ∷ []) h (allotted s c k tt) (omega (arith, le, e)) round (omega (arith, e), tt) _ refl refl refl refl;
        made = λ z is. subst (λ u. IsClosedActivity u.1) (some_is is) (begun_closed service (parcel_of s (object ∷ [])) (value_closed s object k lt));
        sent = λ z is. no_some is;
        filled = λ z is. no_some is;
      }

  sends_closed : (contexts : List Context) (s : Store) (to : Name) (label : Text) (arguments : List ℕ) → IsClosedStore s → length a.store ≤ length s → ContextsBelow (length a.store) contexts → AreBelow (length s) arguments → ClosedIntent (sends n a contexts s to label arguments)
  sends_closed contexts s to label arguments k le round below =
      let c : CellShape = Future (record { by = n; index = suc a.sends }) in
      let e = one_longer s c in
      record {
        own = going_on a contexts (loc (length s)) (s ++ c ∷ []) h (allotted s c k tt) (omega (arith, le, e)) round (omega (arith, e), tt) _ refl refl refl refl;
        made = λ z is. no_some is;
        sent = λ z is. subst (λ u. IsClosedParcel u.1.arguments) (some_is is) (packed_closed s arguments k below);
        filled = λ z is. no_some is;
      }

  polls_closed : (contexts : List Context) (s : Store) (o : Option Numbered) → IsClosedStore s → length a.store ≤ length s → ContextsBelow (length a.store) contexts → ClosedIntent (polls n a contexts s o)
  polls_closed contexts s o k le round =
      let c : CellShape = Number (truth (is_some o)) in
      let e = one_longer s c in
      alone_closed _ (Some (n, Poll)) (going_on a contexts (loc (length s)) (s ++ c ∷ []) h (allotted s c k tt) (omega (arith, le, e)) round (omega (arith, e), tt) _ refl refl refl refl)

  serves_closed : (contexts : List Context) (o : Option Numbered) → ContextsBelow (length a.store) contexts → ((x : Numbered) → o ≡ Some x → IsClosedParcel x.1.arguments) → ClosedIntent (serves a contexts o)
  serves_closed contexts None round k = tt
  serves_closed contexts (Some x) round k =
      let p = k x refl in
      let s = unpack a.store x.1.arguments in
      let le : length a.store ≤ length s = omega (arith, unpacked_length a.store x.1.arguments) in
      alone_closed _ None (record {
        term = (omega (arith, h.active, le), locs_below (length s) (unpacked_roots a.store x.1.arguments) none (unpacked_roots_below a.store x.1.arguments p.roots) tt);
        services = each_both (λ v. ContextsBelow (length s) v.contexts) a.services (record { contexts = contexts; future = a.present } ∷ []) (services_more (length a.store) (length s) le a.services h.services) (contexts_more (length a.store) (length s) le contexts round, tt);
        store = unpacked_closed a.store x.1.arguments h.store p.cells;
        active = omega (arith, h.active, le);
      })

  ends_closed : (place : ℕ) (o : Option ServiceShape) → place < length a.store → newest a.services ≡ o → ClosedIntent (ends_service a place o)
  ends_closed place None lt is = tt
  ends_closed place (Some v) lt is = record {
    own = record {
      term = plug_below (length a.store) v.contexts (leaf (Make [] [])) (newest_below (length a.store) a.services v is h.services) tt;
      services = others_below (length a.store) a.services h.services;
      store = h.store;
      active = h.active;
    };
    made = λ z e. no_some e;
    sent = λ z e. no_some e;
    filled = filled_closed a.present (parcel_of a.store (place ∷ [])) (value_closed a.store place h.store lt);
  }

  contraction_closed : (contexts : List Context) (s : Store) (r : Contraction) → IsClosedStore s → length a.store ≤ length s → ContextsBelow (length a.store) contexts → Closes s r → ClosedIntent (contracts requests n a contexts s r)
  contraction_closed contexts s (Becomes t store lines) k le round c = alone_closed _ None (going_on a contexts t store h c.0 (omega (arith, le, c.2)) round c.1 _ refl refl refl refl)
  contraction_closed contexts s (Faults x) k le round c = tt
  contraction_closed contexts s (Needs place) k le round c = tt
  contraction_closed contexts s (Communicates (Creates object service)) k le round c = creates_closed contexts s object service k le round c
  contraction_closed contexts s (Communicates (Sends to label arguments)) k le round c = sends_closed contexts s to label arguments k le round c
  contraction_closed contexts s (Communicates (Serves labels)) k le round c = serves_closed contexts (oldest_match (labels_served labels (cell s a.active)) a.served 0 requests) round (λ x is. let m = match_is (labels_served labels (cell s a.active)) a.served 0 requests x is in received m.0 x.1 m.2)
  contraction_closed contexts s (Communicates (Polls labels)) k le round c = polls_closed contexts s (oldest_match (labels_served labels (cell s a.active)) a.served 0 requests) k le round
  contraction_closed contexts s Breaks k le round c = tt

  ready_closed : (contexts : List Context) (redex : Redex) (r : Ready) → ContextsBelow (length a.store) contexts → AreBelow (length a.store) (places_of redex) → IsReadFrom (length a.store) r → ClosedIntent (elim r [ Lacks f ↦ Rests (Awaits f) | Reads s ↦ contracts requests n a contexts s (contract s redex) ])
  ready_closed contexts redex (Lacks f) round below k = tt
  ready_closed contexts redex (Reads s) round below k = contraction_closed contexts s (contract s redex) k.0 k.1 round (contract_closes s k.0 redex (below_more (length a.store) (length s) k.1 (places_of redex) below))

  split_closed : (chases : FutureShape → Chase) → ReadsClosed chases → (t : Split) → SplitBelow (length a.store) t → ClosedIntent (elim t [
    | Stands place ↦ ends_service a place (newest a.services)
    | Splits contexts redex ↦ elim (redex_ready chases a.store redex) [ Lacks f ↦ Rests (Awaits f) | Reads s ↦ contracts requests n a contexts s (contract s redex) ]
  ])
  split_closed chases read (Stands place) lt = ends_closed place (newest a.services) lt refl
  split_closed chases read (Splits contexts redex) below =
      let places = front (length a.store) redex.places (locations_below redex.behind) (back (length a.store) (own_locations redex.head) (redex.places ++ locations_below redex.behind) below.1) in
      ready_closed contexts redex (redex_ready chases a.store redex) below.0 below.1 (redex_closed chases read a.store redex places h.store)

  -- an activity, requests and values that are closed have a closed intent
  pub intent_closed : (chases : FutureShape → Chase) → ReadsClosed chases → ClosedIntent (intent chases requests n a)
  intent_closed chases read = split_closed chases read (split a.term) (split_is_below (length a.store) a.term h.term)
