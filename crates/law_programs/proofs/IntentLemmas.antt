-- A proper activity, over proper requests and values, leaves and gives what is proper.
use Rattle.std.specs.Prelude.{◌≡◌, ℕ, suc, ◌+◌, List, [], ◌∷◌, Option, Some, None, length, map, is_some, slice_get}
use Rattle.std.proofs.Common.{refl, subst, arith}
use Rattle.asp_model.specs.Names.{Name, FutureShape, Text, created_name}
use Rattle.asp_model.specs.Term.{leaf, none, Make, loc}
use Rattle.asp_model.specs.Split.{Context, Redex, Split, Stands, Splits, split}
use Rattle.asp_model.specs.Store.{CellShape, Number, Object, Reference, Future, Group, Store, cell, moved_cell}
use Rattle.asp_model.specs.Parcel.{ParcelShape, parcel_of, unpack, unpacked_roots, place_at}
use Rattle.asp_model.specs.Contraction.{Contraction, Becomes, Faults, Needs, Communicates, Breaks, Creates, Sends, Serves, Polls, contract, truth, strict_operands, strict_members}
use Rattle.asp_model.specs.Chase.{Chase, Value, Unfilled, Cycle}
use Rattle.asp_model.specs.Configuration.{RequestShape, ServiceShape, Activity, begun}
use Rattle.asp_model.specs.Intent.{Intent, Acts, Rests, Awaits, Effect, Ready, Reads, Lacks, fetched, operand_ready, operands_ready, redex_ready, start_term, creates, sends, polls, Numbered, oldest_match, labels_served, serves, newest, but_newest, filling, ends_service, contracts, intent}
use Rattle.law_steps.specs.Linked.{Each}
use Rattle.law_chases.proofs.FutureLemmas.{no_some, some_is}
use Rattle.law_steps.proofs.FactLemmas.{match_is}
use Rattle.law_steps.proofs.EachLemmas.{each_both}
use Rattle.law_steps.proofs.ContractionLemmas.{all_placed}
use Rattle.law_steps.proofs.CleanLemmas.{AllRead}
use Rattle.law_programs.specs.Proper.{IsProper, IsProperContext, IsProperCell, IsProperParcel, IsProperActivity}
use Rattle.law_programs.proofs.TermLemmas.{ProperSplit, split_proper, plug_proper, loc_proper, count_behind}
use Rattle.law_programs.proofs.CellLemmas.{all_moved, parcel_proper}
use Rattle.law_programs.proofs.RowLemmas.{Goes, contract_goes, locs_proper}

-- proper: what a step leaves of the activity, and what it gives to others
pub record IsProperEffect (e : Effect) : Type 0 where
  pub own : IsProperActivity e.own
  pub made : (z : Name × Activity) → e.made ≡ Some z → IsProperActivity z.1
  pub sent : (z : Name × RequestShape) → e.sent ≡ Some z → IsProperParcel z.1.arguments
  pub filled : (z : FutureShape × ParcelShape) → e.filled ≡ Some z → IsProperParcel z.1

abbrev pub ProperIntent : Intent → Type 0
ProperIntent (Acts e) = IsProperEffect e
ProperIntent (Rests status) = Unit {0}

newest_proper : (vs : List ServiceShape) (v : ServiceShape) → newest vs ≡ Some v → Each (λ v. Each IsProperContext v.contexts) vs → Each IsProperContext v.contexts
newest_proper [] v e h = no_some e
newest_proper (x ∷ []) v e h = subst (λ v. Each IsProperContext v.contexts) (some_is e) h.0
newest_proper (x ∷ y ∷ vs) v e h = newest_proper (y ∷ vs) v e h.1

others_proper : (vs : List ServiceShape) → Each (λ v. Each IsProperContext v.contexts) vs → Each (λ v. Each IsProperContext v.contexts) (but_newest vs)
others_proper [] h = tt
others_proper (x ∷ []) h = tt
others_proper (x ∷ y ∷ vs) h = (h.0, others_proper (y ∷ vs) h.1)

filled_proper : (o : Option FutureShape) (p : ParcelShape) → IsProperParcel p → (z : FutureShape × ParcelShape) → filling o p ≡ Some z → IsProperParcel z.1
filled_proper None p h z e = no_some e
filled_proper (Some f) p h z e = subst (λ u. IsProperParcel u.1) (some_is e) h

alone_proper : (a : Activity) → IsProperActivity a → IsProperEffect (record { own = a; sent = None; logged = None; made = None; filled = None })
alone_proper a h = record { own = h; made = λ z e. no_some e; sent = λ z e. no_some e; filled = λ z e. no_some e }

start_proper : (service : Option Text) → IsProper [] (start_term service 0)
start_proper None = (refl, refl, ((refl, refl, tt), tt))
start_proper (Some l) = (refl, omega arith, (loc_proper [] 0, tt))

begun_proper : (service : Option Text) (p : ParcelShape) → Each IsProperCell p.cells → IsProperActivity (begun (start_term service 0) (unpack [] p))
begun_proper service p h = record { term = start_proper service; services = tt; store = all_moved (λ n. n + 0) p.cells h }

-- Readings

abbrev IsRead : Ready → Type 0
IsRead (Reads s) = Each IsProperCell s
IsRead (Lacks f) = Unit {0}

module _ (chases : FutureShape → Chase) (read : AllRead IsProperCell chases) where
  fetched_proper : (s : Store) (n : ℕ) (f : FutureShape) (c : Chase) → chases f ≡ c → Each IsProperCell s → IsRead (fetched s n c)
  fetched_proper s n f (Value y p) is h = all_placed IsProperCell s n (map (moved_cell (place_at (length s) n)) p.cells) h (all_moved (place_at (length s) n) p.cells (read f y p is))
  fetched_proper s n f (Unfilled x) is h = tt
  fetched_proper s n f (Cycle x) is h = tt

  operand_proper : (s : Store) (n : ℕ) (c : CellShape) → Each IsProperCell s → IsRead (operand_ready chases s n c)
  operand_proper s n (Future f) h = fetched_proper s n f (chases f) refl h
  operand_proper s n (Number z) h = h
  operand_proper s n (Object fields methods) h = h
  operand_proper s n (Reference m) h = h
  operand_proper s n (Group ns) h = h

  then_proper : (next : Store → Ready) → ((t : Store) → Each IsProperCell t → IsRead (next t)) → (r : Ready) → IsRead r → IsRead (elim r [ Reads t ↦ next t | Lacks f ↦ Lacks f ])
  then_proper next to (Reads t) h = to t h
  then_proper next to (Lacks f) h = h

  operands_proper : (ns : List ℕ) (s : Store) → Each IsProperCell s → IsRead (operands_ready chases s ns)
  operands_proper [] s h = h
  operands_proper (n ∷ ns) s h = then_proper (λ t. operands_ready chases t ns) (λ t k. operands_proper ns t k) (operand_ready chases s n (cell s n)) (operand_proper s n (cell s n) h)

  redex_proper : (s : Store) (r : Redex) → Each IsProperCell s → IsRead (redex_ready chases s r)
  redex_proper s r h = then_proper (λ t. operands_ready chases t (strict_members t r.head r.places)) (λ t k. operands_proper (strict_members t r.head r.places) t k) (operands_ready chases s (strict_operands r.head r.places)) (operands_proper (strict_operands r.head r.places) s h)

-- Intents

module _ (requests : List RequestShape) (received : (k : ℕ) (r : RequestShape) → slice_get requests k ≡ Some r → Each IsProperCell r.arguments.cells) (n : Name) (a : Activity) (h : IsProperActivity a) where
  creates_proper : (contexts : List Context) (s : Store) (object : ℕ) (service : Option Text) → Each IsProperCell s → Each IsProperContext contexts → ProperIntent (creates n a contexts s object service)
  creates_proper contexts s object service k round = record {
    own = record { term = plug_proper contexts (loc (length s)) round (loc_proper [] (length s)); services = h.services; store = each_both IsProperCell s (Reference (created_name n (suc a.creations)) ∷ []) k (tt, tt) };
    made = λ z is. subst (λ u. IsProperActivity u.1) (some_is is) (begun_proper service (parcel_of s (object ∷ [])) (parcel_proper s (object ∷ []) k).cells);
    sent = λ z is. no_some is;
    filled = λ z is. no_some is;
  }

  sends_proper : (contexts : List Context) (s : Store) (to : Name) (label : Text) (arguments : List ℕ) → Each IsProperCell s → Each IsProperContext contexts → ProperIntent (sends n a contexts s to label arguments)
  sends_proper contexts s to label arguments k round = record {
    own = record { term = plug_proper contexts (loc (length s)) round (loc_proper [] (length s)); services = h.services; store = each_both IsProperCell s (Future (record { by = n; index = suc a.sends }) ∷ []) k (tt, tt) };
    made = λ z is. no_some is;
    sent = λ z is. subst (λ u. IsProperParcel u.1.arguments) (some_is is) (parcel_proper s arguments k);
    filled = λ z is. no_some is;
  }

  serves_proper : (contexts : List Context) (o : Option Numbered) → Each IsProperContext contexts → ((x : Numbered) → o ≡ Some x → Each IsProperCell x.1.arguments.cells) → ProperIntent (serves a contexts o)
  serves_proper contexts None round k = tt
  serves_proper contexts (Some x) round k = alone_proper _ (record {
    term = (refl, omega (arith, count_behind (unpacked_roots a.store x.1.arguments) none), (loc_proper [] a.active, locs_proper (unpacked_roots a.store x.1.arguments)));
    services = each_both (λ v. Each IsProperContext v.contexts) a.services (record { contexts = contexts; future = a.present } ∷ []) h.services (round, tt);
    store = each_both IsProperCell a.store _ h.store (all_moved (λ n. n + length a.store) x.1.arguments.cells (k x refl));
  })

  polls_proper : (contexts : List Context) (s : Store) (o : Option Numbered) → Each IsProperCell s → Each IsProperContext contexts → ProperIntent (polls n a contexts s o)
  polls_proper contexts s o k round = record {
    own = record { term = plug_proper contexts (loc (length s)) round (loc_proper [] (length s)); services = h.services; store = each_both IsProperCell s (Number (truth (is_some o)) ∷ []) k (tt, tt) };
    made = λ z is. no_some is;
    sent = λ z is. no_some is;
    filled = λ z is. no_some is;
  }

  ends_proper : (place : ℕ) (o : Option ServiceShape) → newest a.services ≡ o → ProperIntent (ends_service a place o)
  ends_proper place None is = tt
  ends_proper place (Some v) is = record {
    own = record { term = plug_proper v.contexts (leaf (Make [] [])) (newest_proper a.services v is h.services) (refl, refl, tt); services = others_proper a.services h.services; store = h.store };
    made = λ z e. no_some e;
    sent = λ z e. no_some e;
    filled = filled_proper a.present (parcel_of a.store (place ∷ [])) (parcel_proper a.store (place ∷ []) h.store);
  }

  contraction_proper : (contexts : List Context) (s : Store) (r : Contraction) → Each IsProperCell s → Each IsProperContext contexts → Goes s r → ProperIntent (contracts requests n a contexts s r)
  contraction_proper contexts s (Becomes t store lines) k round c = let x = c k in alone_proper _ (record { term = plug_proper contexts t round x.0; services = h.services; store = x.1 })
  contraction_proper contexts s (Faults x) k round c = tt
  contraction_proper contexts s (Needs place) k round c = tt
  contraction_proper contexts s (Communicates (Creates object service)) k round c = creates_proper contexts s object service k round
  contraction_proper contexts s (Communicates (Sends to label arguments)) k round c = sends_proper contexts s to label arguments k round
  contraction_proper contexts s (Communicates (Serves labels)) k round c = serves_proper contexts (oldest_match (labels_served labels (cell s a.active)) a.served 0 requests) round (λ x is. let m = match_is (labels_served labels (cell s a.active)) a.served 0 requests x is in received m.0 x.1 m.2)
  contraction_proper contexts s (Communicates (Polls labels)) k round c = polls_proper contexts s (oldest_match (labels_served labels (cell s a.active)) a.served 0 requests) k round
  contraction_proper contexts s Breaks k round c = tt

  ready_proper : (contexts : List Context) (redex : Redex) (r : Ready) → ProperSplit (Splits contexts redex) → IsRead r → ProperIntent (elim r [ Lacks f ↦ Rests (Awaits f) | Reads s ↦ contracts requests n a contexts s (contract s redex) ])
  ready_proper contexts redex (Lacks f) x k = tt
  ready_proper contexts redex (Reads s) x k = contraction_proper contexts s (contract s redex) k x.0 (contract_goes s redex x.1)

  split_intent_proper : (chases : FutureShape → Chase) → AllRead IsProperCell chases → (t : Split) → ProperSplit t → ProperIntent (elim t [
    | Stands place ↦ ends_service a place (newest a.services)
    | Splits contexts redex ↦ elim (redex_ready chases a.store redex) [ Lacks f ↦ Rests (Awaits f) | Reads s ↦ contracts requests n a contexts s (contract s redex) ]
  ])
  split_intent_proper chases read (Stands place) x = ends_proper place (newest a.services) refl
  split_intent_proper chases read (Splits contexts redex) x = ready_proper contexts redex (redex_ready chases a.store redex) x (redex_proper chases read a.store redex h.store)

  pub intent_proper : (chases : FutureShape → Chase) → AllRead IsProperCell chases → ProperIntent (intent chases requests n a)
  intent_proper chases read = split_intent_proper chases read (split a.term) (split_proper a.term h.term)
