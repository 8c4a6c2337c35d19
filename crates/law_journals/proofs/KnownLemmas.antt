-- What a lawful journal's events speak of is there, so its edges are.
use Rattle.std.specs.Prelude.{◌≡◌, ℕ, zero, suc, ◌≤◌, List, [], ◌∷◌, ◌++◌, Option, Some, None, length, map, slice_get, is_some, true, false, Bool}
use Rattle.std.specs.List.{flat_map}
use Rattle.std.proofs.Common.{refl, sym, ap, subst, ◌∙◌}
use Rattle.std.specs.FinMap.{find, put}
use Rattle.asp_model.specs.Names.{Name, FutureShape, name_cmp, future_cmp, same_future}
use Rattle.asp_model.specs.Split.{Split, Stands, Splits, Redex, split}
use Rattle.asp_model.specs.Store.{CellShape, Number, Object, Reference, Future, Group, Store, cell}
use Rattle.asp_model.specs.Parcel.{ParcelShape}
use Rattle.asp_model.specs.Contraction.{strict_operands, strict_members}
use Rattle.asp_model.specs.Chase.{Chase, Value, Unfilled, Cycle, chase}
use Rattle.asp_model.specs.Configuration.{RequestShape, Activity, Configuration, or_none, requests_of}
use Rattle.asp_model.specs.Intent.{Effect, Acts, Rests, Ready, Reads, Lacks, operand_ready, operands_ready}
use Rattle.asp_model.specs.Step.{intent_in, step, put_some, with_last, with_effect}
use Rattle.asp_model.specs.History.{Edge, Need, EntryShape, Lent, Committed, Delivered}
use Rattle.def_journals.specs.Deliveries.{edge_delivered, need_delivered}
use Rattle.def_journals.specs.Journals.{RunShape, first_in, first_run, reduced, all_entered}
use Rattle.def_journals.specs.Edges.{EdgeShape, Event, Begins, Passes, Fills, Receives, Delivers, HoldersShape, first_holders, homes_in, is_no_edge, with_edge, with_edges, with_held, home_of, after_event, after_events}
use Rattle.def_journals.specs.Passing.{future_in, futures_in, value_read, cell_read, operands_read, redex_read, unpacked_by, receives, sent_events, made_events, filled_events, effect_events, read_in, step_events, steps_events, received_events, named_events, entry_events, events_from}
use Rattle.law_steps.specs.Reached.{IsAt, IsThere, Steps, Edges, Needs}
use Rattle.law_steps.specs.Kept.{IsBegun, sends_of}
use Rattle.law_steps.specs.Kept as kept
use Rattle.law_steps.specs.Linked.{Each, IsKnown, AreKnown}
use Rattle.law_steps.specs.Sound.{IsSound}
use Rattle.law_steps.proofs.NameLemmas.{name_total, name_same}
use Rattle.law_chases.proofs.FutureLemmas.{no_some, some_is}
use Rattle.law_chases.proofs.MapLemmas as Maps
use Rattle.law_steps.proofs.StepLemmas.{step_taken}
use Rattle.law_chases.proofs.ChaseLemmas.{chase_finds}
use Rattle.law_steps.proofs.FactLemmas.{acts_facts}
use Rattle.law_steps.proofs.DeliveryLemmas.{edge_done, need_done}
use Rattle.law_steps.proofs.EachLemmas.{each_both, each_weaker}
use Rattle.law_steps.proofs.WholeLemmas.{moves_keep_sound, sound_intents}
use Rattle.law_journals.specs.EdgesKept.{IsKnownEdge, EdgesAreKnown}
use Rattle.law_journals.proofs.JournalLemmas.{first_reduced, Done, entry_done, first_entered, entry_keeps}
use Rattle.law_journals.proofs.HomeLemmas.{each_in, home_received}
use Rattle.law_journals.proofs.GrowLemmas.{Grows, grows_itself, grows_then, step_grows, move_grows}

-- What an event speaks of is there
abbrev pub IsRight : Configuration → Event → Type 0
IsRight c (Begins f home) = IsThere c home
IsRight c (Passes x) = IsKnownEdge c x
IsRight c (Fills f) = Unit {0}
IsRight c (Receives f n held) = IsThere c n × Each (IsBegun c) held
IsRight c (Delivers x) = Unit {0}

right_grown : (c d : Configuration) → Grows c d → (e : Event) → IsRight c e → IsRight d e
right_grown c d g (Begins f home) h = g.there home h
right_grown c d g (Passes x) h = (g.begun x.future h.0, g.there x.from h.1, g.there x.to h.2)
right_grown c d g (Fills f) h = tt
right_grown c d g (Receives f n held) h = (g.there n h.0, each_weaker (IsBegun c) (IsBegun d) g.begun held h.1)
right_grown c d g (Delivers x) h = tt

-- Holders

pub record AreRight (c : Configuration) (h : HoldersShape) : Type 0 where
  pub edges : Each (IsKnownEdge c) h.edges
  pub homes : Each (λ x. IsThere c x.1) h.homes

holders_grown : (c d : Configuration) (h : HoldersShape) → Grows c d → AreRight c h → AreRight d h
holders_grown c d h g r = record {
  edges = each_weaker (IsKnownEdge c) (IsKnownEdge d) (λ x k. (g.begun x.future k.0, g.there x.from k.1, g.there x.to k.2)) h.edges r.edges;
  homes = each_weaker (λ x. IsThere c x.1) (λ x. IsThere d x.1) (λ x k. g.there x.1 k) h.homes r.homes;
}

module _ (c : Configuration) where
  one_known : (x : EdgeShape) (xs : List EdgeShape) → IsKnownEdge c x → Each (IsKnownEdge c) xs → Each (IsKnownEdge c) (with_edge x xs)
  one_known x xs k h = by (is_no_edge x xs)
    where
      by : (b : Bool) → Each (IsKnownEdge c) (elim b [ true ↦ xs | false ↦ xs ++ x ∷ [] ])
      by true = h
      by false = each_both (IsKnownEdge c) xs (x ∷ []) h (k, tt)

  all_known : (fs : List FutureShape) (from to : Name) (xs : List EdgeShape) → IsThere c from → IsThere c to → Each (IsBegun c) fs → Each (IsKnownEdge c) xs → Each (IsKnownEdge c) (with_edges fs from to xs)
  all_known [] from to xs there there' b h = h
  all_known (f ∷ fs) from to xs there there' b h = all_known fs from to (with_edge (record { future = f; from = from; to = to }) xs) there there' b.1 (one_known (record { future = f; from = from; to = to }) xs (b.0, there, there') h)

  held_known : (fs : List FutureShape) (o : Option Name) (to : Name) (xs : List EdgeShape) → ((home : Name) → o ≡ Some home → IsThere c home) → IsThere c to → Each (IsBegun c) fs → Each (IsKnownEdge c) xs → Each (IsKnownEdge c) (with_held fs o to xs)
  held_known fs None to xs home there b h = h
  held_known fs (Some m) to xs home there b h = all_known fs m to xs (home m refl) there b h

  home_there : (f : FutureShape) (hs : List (FutureShape × Name)) → Each (λ x. IsThere c x.1) hs → (home : Name) → home_of f hs ≡ Some home → IsThere c home
  home_there f [] h home e = no_some e
  home_there f (x ∷ xs) h home e = by (same_future f x.0) e (home_there f xs h.1 home)
    where
      by : (b : Bool) → elim b [ true ↦ Some x.1 | false ↦ home_of f xs ] ≡ Some home → (home_of f xs ≡ Some home → IsThere c home) → IsThere c home
      by true e rest = subst (IsThere c) (some_is e) h.0
      by false e rest = rest e

  event_right : (e : Event) (h : HoldersShape) → IsRight c e → AreRight c h → AreRight c (after_event e h)
  event_right (Begins f home) h k r = record { edges = r.edges; homes = each_both (λ x. IsThere c x.1) h.homes ((f, home) ∷ []) r.homes (k, tt) }
  event_right (Passes x) h k r = record { edges = one_known x h.edges k r.edges; homes = r.homes }
  event_right (Fills f) h k r = record { edges = r.edges; homes = r.homes }
  event_right (Receives f n held) h k r = record { edges = held_known held (home_of f h.homes) n h.edges (home_there f h.homes r.homes) k.0 k.1 r.edges; homes = r.homes }
  event_right (Delivers x) h k r = record { edges = r.edges; homes = r.homes }

  events_right : (es : List Event) (h : HoldersShape) → Each (IsRight c) es → AreRight c h → AreRight c (after_events es h)
  events_right [] h k r = r
  events_right (e ∷ es) h k r = events_right es (after_event e h) k.1 (event_right e h k.0 r)

-- Futures in known cells were begun

future_begun : (c : Configuration) (x : CellShape) → IsKnown c x → Each (IsBegun c) (future_in x)
future_begun c (Future f) h = (h, tt)
future_begun c (Number z) h = tt
future_begun c (Object fields methods) h = tt
future_begun c (Reference n) h = tt
future_begun c (Group ns) h = tt

pub futures_begun : (c : Configuration) (cells : List CellShape) → AreKnown c cells → Each (IsBegun c) (futures_in cells)
futures_begun c [] h = tt
futures_begun c (x ∷ cells) h = each_both (IsBegun c) (future_in x) (flat_map future_in cells) (future_begun c x h.0) (futures_begun c cells h.1)

-- What a step reads are values

module _ (values : List (FutureShape × ParcelShape)) where
  abbrev AreValues : List (FutureShape × ParcelShape) → Type 0
  AreValues = Each (λ x. find future_cmp x.0 values ≡ Some x.1)

  chased_value : (f : FutureShape) (x : Chase) → chase values f ≡ x → AreValues (value_read x)
  chased_value f (Value g p) e = ((chase_finds values f g p e).0, tt)
  chased_value f (Unfilled g) e = tt
  chased_value f (Cycle g) e = tt

  cell_value : (x : CellShape) → AreValues (cell_read (chase values) x)
  cell_value (Future f) = chased_value f (chase values f) refl
  cell_value (Number z) = tt
  cell_value (Object fields methods) = tt
  cell_value (Reference n) = tt
  cell_value (Group ns) = tt

  then_values : (next : Store → List (FutureShape × ParcelShape)) → ((t : Store) → AreValues (next t)) → (r : Ready) → AreValues (elim r [ Reads t ↦ next t | Lacks f ↦ [] ])
  then_values next to (Reads t) = to t
  then_values next to (Lacks f) = tt

  operand_values : (ns : List ℕ) (s : Store) → AreValues (operands_read (chase values) s ns)
  operand_values [] s = tt
  operand_values (n ∷ ns) s = each_both (λ x. find future_cmp x.0 values ≡ Some x.1) (cell_read (chase values) (cell s n)) _ (cell_value (cell s n)) (then_values (λ t. operands_read (chase values) t ns) (operand_values ns) (operand_ready (chase values) s n (cell s n)))

  redex_values : (s : Store) (r : Redex) → AreValues (redex_read (chase values) s r)
  redex_values s r = each_both (λ x. find future_cmp x.0 values ≡ Some x.1) (operands_read (chase values) s (strict_operands r.head r.places)) _ (operand_values (strict_operands r.head r.places) s)
      (then_values (λ t. operands_read (chase values) t (strict_members t r.head r.places)) (λ t. operand_values (strict_members t r.head r.places) t) (operands_ready (chase values) s (strict_operands r.head r.places)))

  unpacked_values : (a : Activity) → AreValues (unpacked_by (chase values) a)
  unpacked_values a = by (split a.term)
    where
      by : (t : Split) → AreValues (elim t [ Stands place ↦ [] | Splits contexts redex ↦ redex_read (chase values) a.store redex ])
      by (Stands place) = tt
      by (Splits contexts redex) = redex_values a.store redex

read_values : (c : Configuration) (n : Name) → AreValues c.futures (read_in c n)
read_values c n = by (find name_cmp n c.activities)
  where
    by : (o : Option Activity) → AreValues c.futures (elim o [ None ↦ [] | Some a ↦ unpacked_by (chase c.futures) a ])
    by None = tt
    by (Some a) = unpacked_values c.futures a

-- Events of a step

pub read_events_right : (c : Configuration) (n : Name) → IsSound c → IsThere c n → (xs : List (FutureShape × ParcelShape)) → AreValues c.futures xs → Each (IsRight c) (map (receives n) xs)
read_events_right c n s there [] h = tt
read_events_right c n s there (x ∷ xs) h = ((there, futures_begun c x.1.cells (s.linked.values x.0 x.1 h.0)), read_events_right c n s there xs h.1)

passes_right : (c : Configuration) (from to : Name) → IsThere c from → IsThere c to → (fs : List FutureShape) → Each (IsBegun c) fs → Each (IsRight c) (map (λ f. Passes (record { future = f; from = from; to = to })) fs)
passes_right c from to there there' [] h = tt
passes_right c from to there there' (f ∷ fs) h = ((h.0, there, there'), passes_right c from to there there' fs h.1)

last_one : (rs : List RequestShape) (q : RequestShape) → slice_get (rs ++ q ∷ []) (length rs) ≡ Some q
last_one [] q = refl
last_one (x ∷ rs) q = last_one rs q

module _ (c : Configuration) (n : Name) (e : Effect) (s : IsSound c) (intends : intent_in c n ≡ Acts e) (sd : IsSound (with_effect n e c)) (g : Grows c (with_effect n e c)) where
  abbrev after : Configuration
  after = with_effect n e c

  here : IsThere c n
  here = (acts_facts c n e intends).0

  sent_right : (o : Option (Name × RequestShape)) → e.sent ≡ o → Each (IsRight after) (sent_events n o)
  sent_right None is = tt
  sent_right (Some x) is =
      let there : IsThere after x.0 = g.there x.0 ((sound_intents c s).targets n e x intends is) in
      let requests : requests_of after x.0 ≡ requests_of c x.0 ++ x.1 ∷ [] = ap (λ o. or_none (find name_cmp x.0 (with_last o c.received))) is ∙ ap or_none (Maps.find_same name_cmp name_total name_same x.0 (requests_of c x.0 ++ x.1 ∷ []) c.received) in
      let stands : kept.Stands after x.0 (length (requests_of c x.0)) x.1 = ap (λ b. slice_get b (length (requests_of c x.0))) requests ∙ last_one (requests_of c x.0) x.1 in
      let own = sd.requests x.0 (length (requests_of c x.0)) x.1 stands in
      let begun : IsBegun after x.1.future = (own.first, subst (λ m. x.1.future.index ≤ sends_of after m) own.by own.last) in (
        there,
        (
          (begun, there, g.there n here),
          passes_right after n x.0 (g.there n here) there (futures_in x.1.arguments.cells) (futures_begun after x.1.arguments.cells (sd.linked.arguments x.0 (length (requests_of c x.0)) x.1 stands)),
        ),
      )

  made_right : (o : Option (Name × Activity)) → e.made ≡ o → Each (IsRight after) (made_events n o)
  made_right None is = tt
  made_right (Some x) is =
      let at : IsAt after x.0 x.1 = ap (λ o. find name_cmp x.0 (put_some name_cmp o (put name_cmp n e.own c.activities))) is ∙ Maps.find_same name_cmp name_total name_same x.0 x.1 (put name_cmp n e.own c.activities) in
      passes_right after n x.0 (g.there n here) (ap is_some at) (futures_in x.1.store) (futures_begun after x.1.store (sd.linked.stores x.0 x.1 at))

  filled_right : (o : Option (FutureShape × ParcelShape)) → Each (IsRight after) (filled_events o)
  filled_right None = tt
  filled_right (Some x) = (tt, tt)

  effect_right : Each (IsRight after) (effect_events n (read_in c n) e)
  effect_right =
      each_both (IsRight after) (map (receives n) (read_in c n)) _ (each_weaker (IsRight c) (IsRight after) (right_grown c after g) (map (receives n) (read_in c n)) (read_events_right c n s here (read_in c n) (read_values c n)))
      (each_both (IsRight after) (sent_events n e.sent) _ (sent_right e.sent refl)
      (each_both (IsRight after) (made_events n e.made) _ (made_right e.made refl) (filled_right e.filled)))

step_right : (c d : Configuration) (n : Name) → IsSound c → step None c n ≡ Some d → Each (IsRight d) (step_events c n)
step_right c d n s h =
    let x = step_taken None c n d h in
    let sd = moves_keep_sound (Steps None n) c d s h in
    let g = step_grows None n c d s h in
    subst (λ z. Each (IsRight z) (step_events c n)) x.2
    (subst (λ i. Each (IsRight (with_effect n x.0 c)) (elim i [ Rests status ↦ [] | Acts e ↦ effect_events n (read_in c n) e ])) (sym x.1.intends)
    (effect_right c n x.0 s x.1.intends (subst IsSound (sym x.2) sd) (subst (Grows c) (sym x.2) g)))

steps_right : (r : ℕ) (n : Name) (c d : Configuration) → IsSound c → reduced r n c ≡ Some d → Each (IsRight d) (steps_events r c n) × Grows c d
steps_right zero n c d s h = (tt, subst (Grows c) (some_is h) (grows_itself c))
steps_right (suc r) n c d s h =
    let x = first_reduced r n c d h in
    let se = moves_keep_sound (Steps None n) c x.0 s x.1 in
    let rest = steps_right r n x.0 d se x.2 in
    let g = step_grows None n c x.0 s x.1 in (
      each_both (IsRight d) (step_events c n) _ (each_weaker (IsRight x.0) (IsRight d) (right_grown x.0 d rest.1) (step_events c n) (step_right c x.0 n s x.1))
          (subst (λ o. Each (IsRight d) (elim o [ None ↦ [] | Some z ↦ steps_events r z n ])) (sym x.1) rest.0),
      grows_then c x.0 d g rest.1,
    )

-- Events of an entry

received_right : (c : Configuration) (f : FutureShape) (to : Name) → IsSound c → IsThere c to → Each (IsRight c) (received_events c f to)
received_right c f to s there = by (find future_cmp f c.futures) refl
  where
    by : (o : Option ParcelShape) → find future_cmp f c.futures ≡ o → Each (IsRight c) (elim o [ None ↦ [] | Some p ↦ receives to (f, p) ∷ [] ])
    by None is = tt
    by (Some p) is = read_events_right c to s there ((f, p) ∷ []) (is, tt)

receiver_there : (c d : Configuration) (f : FutureShape) (to : Name) → edge_delivered c f to ≡ Some d → IsThere c to
receiver_there c d f to h = ap is_some (edge_done c f to d h).at

needing_there : (c d : Configuration) (f : FutureShape) (to : Name) (place : ℕ) → need_delivered c f to place ≡ Some d → IsThere c to
needing_there c d f to place h = ap is_some (need_done c f to place d h).at

entry_right : (x : EntryShape) (s t : RunShape) → IsSound s.configuration → Done x s t → Each (IsRight t.configuration) (entry_events x s) × Grows s.configuration t.configuration
entry_right (Lent k) s t h x = (tt, subst (λ z. Grows s.configuration z.configuration) (sym x.result) (grows_itself s.configuration))
entry_right (Committed k r) s t h x =
    let y = steps_right r x.name s.configuration x.end h x.reduces in
    let e : x.end ≡ t.configuration = ap (λ z. z.configuration) (some_is x.result) in
    subst (λ z. Each (IsRight z) (entry_events (Committed k r) s) × Grows s.configuration z) e
    (subst (λ o. Each (IsRight x.end) (named_events s r o)) (sym x.named) y.0, y.1)
entry_right (Delivered (Edge f from to)) s t h x =
    let e : x.end ≡ t.configuration = ap (λ z. z.configuration) (sym x.result) in
    let g = move_grows (Edges f to) s.configuration x.end h x.delivers in
    let r = received_right s.configuration f to h (receiver_there s.configuration x.end f to x.delivers) in
    subst (λ z. Each (IsRight z) (entry_events (Delivered (Edge f from to)) s) × Grows s.configuration z) e
    ((tt, each_weaker (IsRight s.configuration) (IsRight x.end) (right_grown s.configuration x.end g) (received_events s.configuration f to) r), g)
entry_right (Delivered (Need f to place)) s t h x =
    let e : x.end ≡ t.configuration = ap (λ z. z.configuration) (sym x.result) in
    let g = move_grows (Needs f to place) s.configuration x.end h x.delivers in
    let r = received_right s.configuration f to h (needing_there s.configuration x.end f to place x.delivers) in
    subst (λ z. Each (IsRight z) (entry_events (Delivered (Need f to place)) s) × Grows s.configuration z) e
    (each_weaker (IsRight s.configuration) (IsRight x.end) (right_grown s.configuration x.end g) (received_events s.configuration f to) r, g)

after_more : (es ds : List Event) (h : HoldersShape) → after_events (es ++ ds) h ≡ after_events ds (after_events es h)
after_more [] ds h = refl
after_more (e ∷ es) ds h = after_more es ds (after_event e h)

-- from any run on
pub entries_right : (entries : List EntryShape) (s t : RunShape) (h : HoldersShape) → all_entered entries s ≡ Some t → IsSound s.configuration → AreRight s.configuration h → AreRight t.configuration (after_events (events_from entries s) h)
entries_right [] s t h e sound r = subst (λ z. AreRight z.configuration h) (some_is e) r
entries_right (x ∷ entries) s t h e sound r =
    let u = first_entered x entries s t e in
    let done = entry_done x s u.0 u.1 in
    let y = entry_right x s u.0 sound done in
    let su = entry_keeps IsSound moves_keep_sound x s u.0 done sound in
    let h' = after_events (entry_events x s) h in
    let first : AreRight u.0.configuration h' = events_right u.0.configuration (entry_events x s) h y.0 (holders_grown s.configuration u.0.configuration h y.1 r) in
    subst (AreRight t.configuration) (sym (after_more (entry_events x s) _ h))
    (subst (λ o. AreRight t.configuration (after_events (elim o [ None ↦ [] | Some z ↦ events_from entries z ]) h')) (sym u.1) (entries_right entries u.0 t h' u.2 su first))

-- the homes of a sound configuration are there
homes_there : (c : Configuration) → IsSound c → Each (λ x. IsThere c x.1) (homes_in c)
homes_there c s = each_in (homes_in c) (λ x i. let y = home_received c s x i in (s.requests x.1 y.0 y.1 y.2).received)

pub edges_are_known : EdgesAreKnown
edges_are_known h s sound e =
    let c : Configuration = (first_in h).configuration in
    (entries_right h.entries (first_run h) s (first_holders c) e sound (record { edges = tt; homes = homes_there c sound })).edges
