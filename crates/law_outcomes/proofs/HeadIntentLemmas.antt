-- What holds of each head of an activity, its requests and the values holds of what an intent leaves and gives.
use Rattle.std.specs.Prelude.{◌≡◌, ℕ, suc, ◌+◌, List, [], ◌∷◌, Option, Some, None, length, map, slice_get, is_some}
use Rattle.std.proofs.Common.{refl, subst}
use Rattle.asp_model.specs.Names.{Name, FutureShape, Text, created_name}
use Rattle.asp_model.specs.Term.{Head, leaf, none, Make, loc}
use Rattle.asp_model.specs.Split.{Context, Redex, Split, Stands, Splits, split}
use Rattle.asp_model.specs.Store.{CellShape, Number, Object, Reference, Future, Group, Store, cell, moved_cell}
use Rattle.asp_model.specs.Parcel.{ParcelShape, parcel_of, unpack, unpacked_roots, place_at, with_cells_at}
use Rattle.asp_model.specs.Contraction.{Contraction, Becomes, Faults, Needs, Communicates, Breaks, Creates, Sends, Serves, Polls, contract, truth, strict_operands, strict_members}
use Rattle.asp_model.specs.Chase.{Chase, Value, Unfilled, Cycle}
use Rattle.asp_model.specs.Configuration.{RequestShape, ServiceShape, Activity, begun}
use Rattle.asp_model.specs.Intent.{Intent, Acts, Rests, Awaits, Effect, Ready, Reads, Lacks, fetched, operand_ready, operands_ready, redex_ready, start_term, creates, sends, polls, Numbered, oldest_match, labels_served, serves, newest, but_newest, filling, ends_service, contracts, intent}
use Rattle.law_steps.specs.Linked.{Each}
use Rattle.law_chases.proofs.FutureLemmas.{no_some, some_is}
use Rattle.law_steps.proofs.FactLemmas.{match_is}
use Rattle.law_steps.proofs.EachLemmas.{each_both}
use Rattle.law_steps.proofs.CleanLemmas.{AllRead}
use Rattle.law_outcomes.specs.Heads.{EachHead, HoldsOfWritten, ContextHas, CellHas, LineHas, ActivityHas}
use Rattle.law_outcomes.proofs.HeadLemmas.{SplitHas, split_has, locs_have, plug_has, all_moved, written_has, parcel_has}
use Rattle.law_outcomes.proofs.HeadRowLemmas.{Keeps, contract_keeps}

-- it holds of what a step leaves of the activity, and of what it gives to others
pub record EffectHas (P : Head → Type 0) (e : Effect) : Type 0 where
  pub own : ActivityHas P e.own
  pub made : (z : Name × Activity) → e.made ≡ Some z → ActivityHas P z.1
  pub sent : (z : Name × RequestShape) → e.sent ≡ Some z → Each (CellHas P) z.1.arguments.cells
  pub filled : (z : FutureShape × ParcelShape) → e.filled ≡ Some z → Each (CellHas P) z.1.cells

abbrev pub IntentHas : (Head → Type 0) → Intent → Type 0
IntentHas P (Acts e) = EffectHas P e
IntentHas P (Rests status) = Unit {0}

module _ (P : Head → Type 0) where
  newest_has : (vs : List ServiceShape) (v : ServiceShape) → newest vs ≡ Some v → Each (λ v. Each (ContextHas P) v.contexts) vs → Each (ContextHas P) v.contexts
  newest_has [] v e h = no_some e
  newest_has (x ∷ []) v e h = subst (λ v. Each (ContextHas P) v.contexts) (some_is e) h.0
  newest_has (x ∷ y ∷ vs) v e h = newest_has (y ∷ vs) v e h.1

  others_have : (vs : List ServiceShape) → Each (λ v. Each (ContextHas P) v.contexts) vs → Each (λ v. Each (ContextHas P) v.contexts) (but_newest vs)
  others_have [] h = tt
  others_have (x ∷ []) h = tt
  others_have (x ∷ y ∷ vs) h = (h.0, others_have (y ∷ vs) h.1)

  filled_has : (o : Option FutureShape) (p : ParcelShape) → Each (CellHas P) p.cells → (z : FutureShape × ParcelShape) → filling o p ≡ Some z → Each (CellHas P) z.1.cells
  filled_has None p h z e = no_some e
  filled_has (Some f) p h z e = subst (λ u. Each (CellHas P) u.1.cells) (some_is e) h

  alone_has : (a : Activity) → ActivityHas P a → EffectHas P (record { own = a; sent = None; logged = None; made = None; filled = None })
  alone_has a h = record { own = h; made = λ z e. no_some e; sent = λ z e. no_some e; filled = λ z e. no_some e }

module _ (P : Head → Type 0) (w : HoldsOfWritten P) where
  -- Readings

  abbrev IsRead : Ready → Type 0
  IsRead (Reads s) = Each (CellHas P) s
  IsRead (Lacks f) = Unit {0}

  placed_has : (s : Store) (n : ℕ) (cs : List CellShape) → Each (CellHas P) s → Each (CellHas P) cs → Each (CellHas P) (with_cells_at s n cs)
  placed_has s n [] h k = h
  placed_has s n (c ∷ cs) h k = each_both (CellHas P) _ cs (written_has P w s n c h k.0) k.1

  begun_has : (service : Option Text) (p : ParcelShape) → Each (CellHas P) p.cells → ActivityHas P (begun (start_term service 0) (unpack [] p))
  begun_has service p h = record { term = start_has service; services = tt; store = all_moved P w (λ n. n + 0) p.cells h; lines = tt }
    where
      start_has : (o : Option Text) → EachHead P (start_term o 0)
      start_has None = (w.repeat, ((w.serve, tt), tt))
      start_has (Some l) = (w.call l, ((w.loc 0, tt), tt))

module _ (P : Head → Type 0) (w : HoldsOfWritten P) (chases : FutureShape → Chase) (read : AllRead (CellHas P) chases) where
  fetched_has : (s : Store) (n : ℕ) (f : FutureShape) (c : Chase) → chases f ≡ c → Each (CellHas P) s → IsRead P w (fetched s n c)
  fetched_has s n f (Value y p) is h = placed_has P w s n (map (moved_cell (place_at (length s) n)) p.cells) h (all_moved P w (place_at (length s) n) p.cells (read f y p is))
  fetched_has s n f (Unfilled x) is h = tt
  fetched_has s n f (Cycle x) is h = tt

  operand_has : (s : Store) (n : ℕ) (c : CellShape) → Each (CellHas P) s → IsRead P w (operand_ready chases s n c)
  operand_has s n (Future f) h = fetched_has s n f (chases f) refl h
  operand_has s n (Number z) h = h
  operand_has s n (Object fields methods) h = h
  operand_has s n (Reference m) h = h
  operand_has s n (Group ns) h = h

  then_has : (next : Store → Ready) → ((t : Store) → Each (CellHas P) t → IsRead P w (next t)) → (r : Ready) → IsRead P w r → IsRead P w (elim r [ Reads t ↦ next t | Lacks f ↦ Lacks f ])
  then_has next to (Reads t) h = to t h
  then_has next to (Lacks f) h = h

  operands_have : (ns : List ℕ) (s : Store) → Each (CellHas P) s → IsRead P w (operands_ready chases s ns)
  operands_have [] s h = h
  operands_have (n ∷ ns) s h = then_has (λ t. operands_ready chases t ns) (λ t k. operands_have ns t k) (operand_ready chases s n (cell s n)) (operand_has s n (cell s n) h)

  redex_has : (s : Store) (r : Redex) → Each (CellHas P) s → IsRead P w (redex_ready chases s r)
  redex_has s r h = then_has (λ t. operands_ready chases t (strict_members t r.head r.places)) (λ t k. operands_have (strict_members t r.head r.places) t k) (operands_ready chases s (strict_operands r.head r.places)) (operands_have (strict_operands r.head r.places) s h)

module _ (P : Head → Type 0) (w : HoldsOfWritten P) (requests : List RequestShape) (received : (k : ℕ) (r : RequestShape) → slice_get requests k ≡ Some r → Each (CellHas P) r.arguments.cells) (n : Name) (a : Activity) (h : ActivityHas P a) where
  creates_has : (contexts : List Context) (s : Store) (object : ℕ) (service : Option Text) → Each (CellHas P) s → Each (ContextHas P) contexts → IntentHas P (creates n a contexts s object service)
  creates_has contexts s object service k round = record {
    own = record { term = plug_has P w contexts (loc (length s)) round (w.loc (length s), tt); services = h.services; store = each_both (CellHas P) s (Reference (created_name n (suc a.creations)) ∷ []) k (tt, tt); lines = h.lines };
    made = λ z is. subst (λ u. ActivityHas P u.1) (some_is is) (begun_has P w service (parcel_of s (object ∷ [])) (parcel_has P w s (object ∷ []) k));
    sent = λ z is. no_some is;
    filled = λ z is. no_some is;
  }

  sends_has : (contexts : List Context) (s : Store) (to : Name) (label : Text) (arguments : List ℕ) → Each (CellHas P) s → Each (ContextHas P) contexts → IntentHas P (sends n a contexts s to label arguments)
  sends_has contexts s to label arguments k round = record {
    own = record { term = plug_has P w contexts (loc (length s)) round (w.loc (length s), tt); services = h.services; store = each_both (CellHas P) s (Future (record { by = n; index = suc a.sends }) ∷ []) k (tt, tt); lines = h.lines };
    made = λ z is. no_some is;
    sent = λ z is. subst (λ u. Each (CellHas P) u.1.arguments.cells) (some_is is) (parcel_has P w s arguments k);
    filled = λ z is. no_some is;
  }

  serves_has : (contexts : List Context) (o : Option Numbered) → Each (ContextHas P) contexts → ((x : Numbered) → o ≡ Some x → Each (CellHas P) x.1.arguments.cells) → IntentHas P (serves a contexts o)
  serves_has contexts None round k = tt
  serves_has contexts (Some x) round k = alone_has P _ (record {
    term = (w.call x.1.label, ((w.loc a.active, tt), locs_have P w (unpacked_roots a.store x.1.arguments) none tt));
    services = each_both (λ v. Each (ContextHas P) v.contexts) a.services (record { contexts = contexts; future = a.present } ∷ []) h.services (round, tt);
    store = each_both (CellHas P) a.store _ h.store (all_moved P w (λ n. n + length a.store) x.1.arguments.cells (k x refl));
    lines = h.lines;
  })

  polls_has : (contexts : List Context) (s : Store) (o : Option Numbered) → Each (CellHas P) s → Each (ContextHas P) contexts → IntentHas P (polls n a contexts s o)
  polls_has contexts s o k round = record {
    own = record { term = plug_has P w contexts (loc (length s)) round (w.loc (length s), tt); services = h.services; store = each_both (CellHas P) s (Number (truth (is_some o)) ∷ []) k (tt, tt); lines = h.lines };
    made = λ z is. no_some is;
    sent = λ z is. no_some is;
    filled = λ z is. no_some is;
  }

  ends_has : (place : ℕ) (o : Option ServiceShape) → newest a.services ≡ o → IntentHas P (ends_service a place o)
  ends_has place None is = tt
  ends_has place (Some v) is = record {
    own = record { term = plug_has P w v.contexts (leaf (Make [] [])) (newest_has P a.services v is h.services) (w.make, tt); services = others_have P a.services h.services; store = h.store; lines = h.lines };
    made = λ z e. no_some e;
    sent = λ z e. no_some e;
    filled = filled_has P a.present (parcel_of a.store (place ∷ [])) (parcel_has P w a.store (place ∷ []) h.store);
  }

  contraction_has : (contexts : List Context) (s : Store) (r : Contraction) → Each (CellHas P) s → Each (ContextHas P) contexts → Keeps P r → IntentHas P (contracts requests n a contexts s r)
  contraction_has contexts s (Becomes t store lines) k round c = alone_has P _ (record { term = plug_has P w contexts t round c.0; services = h.services; store = c.1; lines = each_both (LineHas P) a.lines lines h.lines c.2 })
  contraction_has contexts s (Faults x) k round c = tt
  contraction_has contexts s (Needs place) k round c = tt
  contraction_has contexts s (Communicates (Creates object service)) k round c = creates_has contexts s object service k round
  contraction_has contexts s (Communicates (Sends to label arguments)) k round c = sends_has contexts s to label arguments k round
  contraction_has contexts s (Communicates (Serves labels)) k round c = serves_has contexts (oldest_match (labels_served labels (cell s a.active)) a.served 0 requests) round (λ x is. let m = match_is (labels_served labels (cell s a.active)) a.served 0 requests x is in received m.0 x.1 m.2)
  contraction_has contexts s (Communicates (Polls labels)) k round c = polls_has contexts s (oldest_match (labels_served labels (cell s a.active)) a.served 0 requests) k round
  contraction_has contexts s Breaks k round c = tt

  ready_has : (contexts : List Context) (redex : Redex) (r : Ready) → SplitHas P (Splits contexts redex) → IsRead P w r → IntentHas P (elim r [ Lacks f ↦ Rests (Awaits f) | Reads s ↦ contracts requests n a contexts s (contract s redex) ])
  ready_has contexts redex (Lacks f) x k = tt
  ready_has contexts redex (Reads s) x k = contraction_has contexts s (contract s redex) k x.0 (contract_keeps P w s k redex x.1 x.2)

  split_intent_has : (chases : FutureShape → Chase) → AllRead (CellHas P) chases → (t : Split) → SplitHas P t → IntentHas P (elim t [
    | Stands place ↦ ends_service a place (newest a.services)
    | Splits contexts redex ↦ elim (redex_ready chases a.store redex) [ Lacks f ↦ Rests (Awaits f) | Reads s ↦ contracts requests n a contexts s (contract s redex) ]
  ])
  split_intent_has chases read (Stands place) x = ends_has place (newest a.services) refl
  split_intent_has chases read (Splits contexts redex) x = ready_has contexts redex (redex_ready chases a.store redex) x (redex_has P w chases read a.store redex h.store)

  pub intent_has : (chases : FutureShape → Chase) → AllRead (CellHas P) chases → IntentHas P (intent chases requests n a)
  intent_has chases read = split_intent_has chases read (split a.term) (split_has P a.term h.term)
