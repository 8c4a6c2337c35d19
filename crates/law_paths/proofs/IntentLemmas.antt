-- Linked activities with requests that agree intend alike.
use Rattle.std.specs.Prelude.{◌≡◌, ℕ, ℤ, suc, true, false, List, [], ◌∷◌, ◌++◌, Option, Some, None, length}
use Rattle.std.proofs.Common.{refl, ap, subst}
use Rattle.asp_model.specs.Names.{Name, FutureShape, Text, created_name}
use Rattle.asp_model.specs.Term.{Tree, node, none, more, Call, Make, loc, locs_then}
use Rattle.asp_model.specs.Split.{Context, Redex, Split, Stands, Splits, split, plug}
use Rattle.asp_model.specs.Store.{Number, Reference, Future, Store, cell}
use Rattle.asp_model.specs.Parcel.{ParcelShape, parcel_of, unpack, unpacked_roots, number_in, visit_order}
use Rattle.asp_model.specs.Contraction.{Contraction, Becomes, contract, truth, is_future, LineShape}
use Rattle.asp_model.specs.Chase.{Chase}
use Rattle.asp_model.specs.Configuration.{RequestShape, From, Poll, ServiceShape, Activity, begun}
use Rattle.asp_model.specs.Intent.{Intent, Acts, Rests, Done, Serving, Awaits, Faulted, Ready, Reads, Lacks, redex_ready, start_term, creates, sends, polls, Numbered, oldest_match, labels_served, serves, newest, filling, ends_service, contracts, intent}
use Rattle.law_steps.proofs.VisitLemmas.{first_number}
use Rattle.def_paths.specs.Places.{Place, Side, side_by, value_by, name_by}
use Rattle.def_paths.specs.Agree.{Pairs, no_pair, pair, MayBoth, neither, both, ActivitiesAgree, ParcelsAgree}
use Rattle.law_paths.specs.Alike.{AreAlike, at_locs, at_node, no_more, one_more, AlikeContexts, AlikeRedexes, AlikeSplits, both_stand, both_split, references, numbers}
use Rattle.law_paths.specs.Agreeing.{IntentsAgree, both_act, both_rest}
use Rattle.law_paths.proofs.PairLemmas.{pairs_more}
use Rattle.law_paths.proofs.AlikeLemmas.{alike_split, alike_plug, alike_locs}
use Rattle.law_paths.proofs.GrownLemmas.{closed_over}
use Rattle.law_paths.proofs.OnwardLemmas.{stored_pairs, low, low_too, Stored, Onward, Showing, cells_at, alike_shows, new_onward, new_related}
use Rattle.law_paths.proofs.RowsLemmas.{AlikeContractions, becomes, faults, breaks, Operand}
use Rattle.law_paths.proofs.RowsLemmas as rows
use Rattle.law_paths.proofs.ContractLemmas.{contract_alike}
use Rattle.law_paths.proofs.ReadyLemmas.{ReadyRedexes, may_contract, may_not, redexes_ready}
use Rattle.law_paths.proofs.ActivityLemmas.{AlikeServices, LinkedActivities, linked_agree}
use Rattle.law_paths.proofs.ParcelLemmas.{packed_sides, PackedPairs, packed_alike, packed_roots, unpack_onward, unpacked_roots_related, unpacked_related, parcel_sides, parcel_roots, ParcelPaths}
use Rattle.law_paths.proofs.StillLemmas.{still_contexts, still_services, still_redex, newest_alike, but_newest_alike, served_alike, NumberedAgree, PendingAgree, match_alike, Nowhere, nowhere_sides, start_alike, both_first}

-- Intents

-- a future that is not filled, and awaits one name on both sides
pub record IsFresh (k l : FutureShape → Chase) (f : FutureShape) : Type 0 where
  pub none : value_by (k f) ≡ None
  pub none_too : value_by (l f) ≡ None
  pub same : name_by (k f) ≡ name_by (l f)

module _ (k l : FutureShape → Chase) (n : Name) (a b : Activity) (R : Place → Place → Type 0) (x : LinkedActivities k l a b R)
    (fresh : IsFresh k l (record { by = n; index = suc a.sends })) (plain : is_future (cell a.store a.active) ≡ false) (plain_too : is_future (cell b.store b.active) ≡ false) where
  abbrev near : Side
  near = side_by k a.store

  abbrev far : Side
  far = side_by l b.store

  alone_agree : (c d : Activity) → ActivitiesAgree k l c d → IntentsAgree k l (Acts (record { own = c; sent = None; logged = None; made = None; filled = None })) (Acts (record { own = d; sent = None; logged = None; made = None; filled = None }))
  alone_agree c d e = both_act (record { own = e; sent = neither; logged = refl; made = neither; filled = neither })

  -- LOCAL
  module _ (cs ds : List Context) (e : Pairs (AlikeContexts (Stored R)) cs ds) where
    local_agrees : (s s' : Store) (o : Onward R (side_by k s) (side_by l s')) (t u : Tree) (lines : List LineShape) → AreAlike (Stored o.rel) t u
        → IntentsAgree k l (contracts [] n a cs s (Becomes t s lines)) (contracts [] n b ds s' (Becomes u s' lines))
    local_agrees s s' o t u lines same = alone_agree _ _ (linked_agree k l _ _ o.rel (record {
      sides = o.sides;
      active = o.keeps a.active b.active x.active;
      term = alike_plug (Stored o.rel) cs ds t u (still_contexts (Stored R) (Stored o.rel) o.keeps cs ds e) same;
      services = still_services (Stored R) (Stored o.rel) o.keeps a.services b.services x.services;
      counts = record { present = x.counts.present; sends = x.counts.sends; creations = x.counts.creations; reductions = ap suc x.counts.reductions; lines = λ i. x.counts.lines i ++ lines; served = x.counts.served };
    }))

    -- the sides on which the operands were read
    module _ (s s' : Store) (o : Onward R (side_by k s) (side_by l s')) where
      abbrev L : ℕ → ℕ → Type 0
      L = Stored o.rel

      -- NEWACT
      object_parcel : (i j : ℕ) → L i j → Pairs L (i ∷ []) (j ∷ [])
      object_parcel i j r = pair r no_pair

      made_agree : (service : Option Text) (i j : ℕ) → L i j → ActivitiesAgree k l (begun (start_term service 0) (unpack [] (parcel_of s (i ∷ [])))) (begun (start_term service 0) (unpack [] (parcel_of s' (j ∷ []))))
      made_agree service i j r =
          let sp = packed_sides (side_by k s) (side_by l s') o.rel o.sides (i ∷ []) (j ∷ []) (pair r no_pair) in
          let P = PackedPairs (side_by k s) (side_by l s') o.rel o.sides (i ∷ []) (j ∷ []) (pair r no_pair) in
          let roots = stored_pairs P (parcel_of s (i ∷ [])).roots (parcel_of s' (j ∷ [])).roots (packed_roots (side_by k s) (side_by l s') o.rel o.sides (i ∷ []) (j ∷ []) (pair r no_pair)) in
          let zero_root = subst (λ m. Stored P 0 m) (first_number s' j o.sides.right.store (low_too (side_by k s) (side_by l s') o.rel o.sides i j r)) (subst (λ m. Stored P m (number_in (visit_order s' (j ∷ [])) j)) (first_number s i o.sides.left.store (low (side_by k s) (side_by l s') o.rel o.sides i j r)) (both_first P _ _ [] [] roots)) in
          let z = unpack_onward (side_by k []) (side_by l []) Nowhere (nowhere_sides k l s s' o.sides.left o.sides.right) (parcel_of s (i ∷ [])) (parcel_of s' (j ∷ [])) P sp in
          let root = unpacked_related (side_by k []) (side_by l []) Nowhere (nowhere_sides k l s s' o.sides.left o.sides.right) (parcel_of s (i ∷ [])) (parcel_of s' (j ∷ [])) P sp 0 0 zero_root in
          linked_agree k l _ _ z.rel (record {
            sides = z.sides;
            active = root;
            term = start_alike (Stored z.rel) service root;
            services = no_pair;
            counts = record { present = refl; sends = refl; creations = refl; reductions = refl; lines = refl; served = refl };
          })

      creates_agree : (service : Option Text) (i j : ℕ) → L i j → IntentsAgree k l (creates n a cs s i service) (creates n b ds s' j service)
      creates_agree service i j r =
          let created : Name = created_name n (suc a.creations) in
          let w = alike_shows (side_by k s) (side_by l s') o.rel o.sides (Reference created) (Reference created) (references created) in
          let z = new_onward (side_by k s) (side_by l s') o.rel o.sides (Reference created) (Reference created) w in
          let keeps : (i j : ℕ) → Stored R i j → Stored z.rel i j = λ i j r. z.keeps i j (o.keeps i j r) in
          subst (λ m. IntentsAgree k l (creates n a cs s i service) (Acts (record {
            own = record b { term = plug ds (loc (length s')); store = s' ++ Reference (created_name n (suc m)) ∷ []; creations = suc b.creations; reductions = suc b.reductions };
            sent = None;
            logged = None;
            made = Some (created_name n (suc m), begun (start_term service 0) (unpack [] (parcel_of s' (j ∷ []))));
            filled = None;
          }))) x.counts.creations
          (both_act (record {
            own = linked_agree k l _ _ z.rel (record {
              sides = z.sides;
              active = keeps a.active b.active x.active;
              term = alike_plug (Stored z.rel) cs ds _ _ (still_contexts (Stored R) (Stored z.rel) keeps cs ds e) (at_locs (new_related (side_by k s) (side_by l s') o.rel o.sides (Reference created) (Reference created) w) no_more);
              services = still_services (Stored R) (Stored z.rel) keeps a.services b.services x.services;
              counts = record { present = x.counts.present; sends = x.counts.sends; creations = ap suc x.counts.creations; reductions = ap suc x.counts.reductions; lines = x.counts.lines; served = x.counts.served };
            });
            sent = neither;
            logged = refl;
            made = both (refl, made_agree service i j r);
            filled = neither;
          }))

      -- REQUEST
      sends_agree : (to : Name) (label : Text) (xs ys : List ℕ) → Pairs L xs ys → IntentsAgree k l (sends n a cs s to label xs) (sends n b ds s' to label ys)
      sends_agree to label xs ys ps =
          let f : FutureShape = record { by = n; index = suc a.sends } in
          let w : Showing (side_by k s) (side_by l s') o.rel (Future f) (Future f) = record { none = fresh.none; none_too = fresh.none_too; same = ap Future fresh.same; kids = no_pair } in
          let z = new_onward (side_by k s) (side_by l s') o.rel o.sides (Future f) (Future f) w in
          let keeps : (i j : ℕ) → Stored R i j → Stored z.rel i j = λ i j r. z.keeps i j (o.keeps i j r) in
          subst (λ m. IntentsAgree k l (sends n a cs s to label xs) (Acts (record {
            own = record b { term = plug ds (loc (length s')); store = s' ++ Future (record { by = n; index = suc m }) ∷ []; sends = suc b.sends; reductions = suc b.reductions };
            sent = Some (to, record { label = label; sender = n; future = record { by = n; index = suc m }; arguments = parcel_of s' ys });
            logged = Some (to, From n);
            made = None;
            filled = None;
          }))) x.counts.sends
          (both_act (record {
            own = linked_agree k l _ _ z.rel (record {
              sides = z.sides;
              active = keeps a.active b.active x.active;
              term = alike_plug (Stored z.rel) cs ds _ _ (still_contexts (Stored R) (Stored z.rel) keeps cs ds e) (at_locs (new_related (side_by k s) (side_by l s') o.rel o.sides (Future f) (Future f) w) no_more);
              services = still_services (Stored R) (Stored z.rel) keeps a.services b.services x.services;
              counts = record { present = x.counts.present; sends = ap suc x.counts.sends; creations = x.counts.creations; reductions = ap suc x.counts.reductions; lines = x.counts.lines; served = x.counts.served };
            });
            sent = both (refl, record { label = refl; sender = refl; future = refl; arguments = packed_alike (side_by k s) (side_by l s') o.rel o.sides xs ys ps });
            logged = refl;
            made = neither;
            filled = neither;
          }))

      -- POLL
      polled : (v : ℤ) → IntentsAgree k l
          (Acts (record { own = record a { term = plug cs (loc (length s)); store = s ++ Number v ∷ []; reductions = suc a.reductions }; sent = None; logged = Some (n, Poll); made = None; filled = None }))
          (Acts (record { own = record b { term = plug ds (loc (length s')); store = s' ++ Number v ∷ []; reductions = suc b.reductions }; sent = None; logged = Some (n, Poll); made = None; filled = None }))
      polled v =
          let w = alike_shows (side_by k s) (side_by l s') o.rel o.sides (Number v) (Number v) (numbers v) in
          let z = new_onward (side_by k s) (side_by l s') o.rel o.sides (Number v) (Number v) w in
          let keeps : (i j : ℕ) → Stored R i j → Stored z.rel i j = λ i j r. z.keeps i j (o.keeps i j r) in
          both_act (record {
            own = linked_agree k l _ _ z.rel (record {
              sides = z.sides;
              active = keeps a.active b.active x.active;
              term = alike_plug (Stored z.rel) cs ds _ _ (still_contexts (Stored R) (Stored z.rel) keeps cs ds e) (at_locs (new_related (side_by k s) (side_by l s') o.rel o.sides (Number v) (Number v) w) no_more);
              services = still_services (Stored R) (Stored z.rel) keeps a.services b.services x.services;
              counts = record { present = x.counts.present; sends = x.counts.sends; creations = x.counts.creations; reductions = ap suc x.counts.reductions; lines = x.counts.lines; served = x.counts.served };
            });
            sent = neither;
            logged = refl;
            made = neither;
            filled = neither;
          })

      polls_agree : (p q : Option Numbered) → MayBoth (NumberedAgree k l) p q → IntentsAgree k l (polls n a cs s p) (polls n b ds s' q)
      polls_agree _ _ neither = polled (truth false)
      polls_agree _ _ (both m) = polled (truth true)

    -- SERVE
    serves_agree : (o p : Option Numbered) → MayBoth (NumberedAgree k l) o p → IntentsAgree k l (serves a cs o) (serves b ds p)
    serves_agree _ _ neither = both_rest Serving
    serves_agree _ _ (both {x = u} {y = v} m) =
        let p = u.1.arguments in
        let q = v.1.arguments in
        let cp = closed_over near p.cells x.sides.left m.2.cells in
        let cq = closed_over far q.cells x.sides.right m.3.cells in
        let sp = parcel_sides k l p q m.1.arguments m.2 m.3 cp cq in
        let P = ParcelPaths k l p q m.1.arguments m.2 m.3 cp cq in
        let z = unpack_onward near far R x.sides p q P sp in
        let roots = unpacked_roots_related near far R x.sides p q P sp (parcel_roots k l p q m.1.arguments m.2 m.3 cp cq) in
        alone_agree _ _ (linked_agree k l _ _ z.rel (record {
          sides = z.sides;
          active = z.keeps a.active b.active x.active;
          term = subst (λ w. AreAlike (Stored z.rel) (node (Call u.1.label) (more (loc a.active) (locs_then (unpacked_roots a.store p) none))) (node (Call w) (more (loc b.active) (locs_then (unpacked_roots b.store q) none)))) m.1.label
              (at_node (Call u.1.label) refl (one_more (at_locs (z.keeps a.active b.active x.active) no_more) (alike_locs (Stored z.rel) _ _ none none roots no_more)));
          services = pairs_more (AlikeServices (Stored z.rel)) _ _ _ _ (still_services (Stored R) (Stored z.rel) z.keeps a.services b.services x.services) (pair (record { contexts = still_contexts (Stored R) (Stored z.rel) z.keeps cs ds e; future = x.counts.present }) no_pair);
          counts = record { present = ap Some m.1.future; sends = x.counts.sends; creations = x.counts.creations; reductions = ap suc x.counts.reductions; lines = x.counts.lines; served = λ i. m.0 i ∷ x.counts.served i };
        }))

  abbrev FilledAgree : Option (FutureShape × ParcelShape) → Option (FutureShape × ParcelShape) → Type 0
  FilledAgree = MayBoth {A = FutureShape × ParcelShape} {B = FutureShape × ParcelShape} (λ x y. (x.0 ≡ y.0) × ParcelsAgree k l x.1 y.1)

  fills_same : (i j : ℕ) → Stored R i j → (o : Option FutureShape) → FilledAgree (filling o (parcel_of a.store (i ∷ []))) (filling o (parcel_of b.store (j ∷ [])))
  fills_same i j r None = neither
  fills_same i j r (Some f) = both (refl, packed_alike near far R x.sides (i ∷ []) (j ∷ []) (pair r no_pair))

  fills : (i j : ℕ) → Stored R i j → (o p : Option FutureShape) → o ≡ p → FilledAgree (filling o (parcel_of a.store (i ∷ []))) (filling p (parcel_of b.store (j ∷ [])))
  fills i j r o p e = subst (λ q. FilledAgree (filling o (parcel_of a.store (i ∷ []))) (filling q (parcel_of b.store (j ∷ [])))) e (fills_same i j r o)

  -- ENDSERVICE
  ends_agree : (i j : ℕ) → Stored R i j → (o p : Option ServiceShape) → MayBoth (AlikeServices (Stored R)) o p → IntentsAgree k l (ends_service a i o) (ends_service b j p)
  ends_agree i j r _ _ neither = both_rest Done
  ends_agree i j r _ _ (both {x = v} {y = w} e) = both_act (record {
    own = linked_agree k l _ _ R (record {
      sides = x.sides;
      active = x.active;
      term = alike_plug (Stored R) v.contexts w.contexts _ _ e.contexts (at_node (Make [] []) refl no_more);
      services = but_newest_alike (Stored R) a.services b.services x.services;
      counts = record { present = e.future; sends = x.counts.sends; creations = x.counts.creations; reductions = ap suc x.counts.reductions; lines = x.counts.lines; served = x.counts.served };
    });
    sent = neither;
    logged = refl;
    made = neither;
    filled = fills i j r a.present b.present x.counts.present;
  })

  module _ (rs ss : List RequestShape) (ps : Pairs (PendingAgree k l) rs ss) where
    contracts_agree : (cs ds : List Context) → Pairs (AlikeContexts (Stored R)) cs ds → (s s' : Store) (o : Onward R (side_by k s) (side_by l s')) → Operand (side_by k s) (side_by l s') o.rel o.sides a.active b.active
        → (c d : Contraction) → AlikeContractions (side_by k s) (side_by l s') o.rel c d → IntentsAgree k l (contracts rs n a cs s c) (contracts ss n b ds s' d)
    contracts_agree cs ds e s s' o act _ _ (becomes {t = t} {u = u} {s = s1} {s' = s2} {lines = lines} z same) = local_agrees cs ds e s1 s2 (record { rel = z.rel; sides = z.sides; keeps = λ i j r. z.keeps i j (o.keeps i j r) }) t u lines same
    contracts_agree cs ds e s s' o act _ _ (faults f) = both_rest (Faulted f)
    contracts_agree cs ds e s s' o act _ _ (rows.creates service r) = creates_agree cs ds e s s' o service _ _ r
    contracts_agree cs ds e s s' o act _ _ (rows.sends to label qs) = sends_agree cs ds e s s' o to label _ _ qs
    contracts_agree cs ds e s s' o act _ _ (rows.serves labels) =
        let same = served_alike (Stored o.rel) labels (cell s a.active) (cell s' b.active) (cells_at (side_by k s) (side_by l s') o.rel o.sides a.active b.active act.related act.left act.right) in
        serves_agree cs ds e _ _ (subst (λ w. MayBoth (NumberedAgree k l) (oldest_match (labels_served labels (cell s a.active)) a.served 0 rs) (oldest_match w b.served 0 ss)) same
        (subst (λ w. MayBoth (NumberedAgree k l) (oldest_match (labels_served labels (cell s a.active)) a.served 0 rs) (oldest_match (labels_served labels (cell s a.active)) w 0 ss)) x.counts.served
        (match_alike k l (labels_served labels (cell s a.active)) a.served 0 rs ss ps)))
    contracts_agree cs ds e s s' o act _ _ (rows.polls labels) =
        let same = served_alike (Stored o.rel) labels (cell s a.active) (cell s' b.active) (cells_at (side_by k s) (side_by l s') o.rel o.sides a.active b.active act.related act.left act.right) in
        polls_agree cs ds e s s' o _ _ (subst (λ w. MayBoth (NumberedAgree k l) (oldest_match (labels_served labels (cell s a.active)) a.served 0 rs) (oldest_match w b.served 0 ss)) same
        (subst (λ w. MayBoth (NumberedAgree k l) (oldest_match (labels_served labels (cell s a.active)) a.served 0 rs) (oldest_match (labels_served labels (cell s a.active)) w 0 ss)) x.counts.served
        (match_alike k l (labels_served labels (cell s a.active)) a.served 0 rs ss ps)))
    contracts_agree cs ds e s s' o act _ _ breaks = both_rest Done

    abbrev after_ready : Activity → List RequestShape → List Context → Redex → Ready → Intent
    after_ready c qs cs z r = elim r [ Lacks f ↦ Rests (Awaits f) | Reads s ↦ contracts qs n c cs s (contract s z) ]

    ready_agrees : (cs ds : List Context) → Pairs (AlikeContexts (Stored R)) cs ds → (y z : Redex) → AlikeRedexes (Stored R) y z → (p q : Ready) → ReadyRedexes near far R y z p q → IntentsAgree k l (after_ready a rs cs y p) (after_ready b ss ds z q)
    ready_agrees cs ds e y z same _ _ (may_not f) = both_rest (Awaits f)
    ready_agrees cs ds e y z same _ _ (may_contract {t = t} {u = u} o stays ops members) = contracts_agree cs ds e t u o (stays a.active b.active (x.active, plain, plain_too)) _ _
        (contract_alike (side_by k t) (side_by l u) o.rel o.sides y z (still_redex (Stored R) (Stored o.rel) o.keeps y z same) ops members)

    abbrev intent_of : (FutureShape → Chase) → Activity → List RequestShape → Split → Intent
    intent_of h c qs w = elim w [
      | Stands place ↦ ends_service c place (newest c.services)
      | Splits contexts redex ↦ after_ready c qs contexts redex (redex_ready h c.store redex)
    ]

    split_agrees : (v w : Split) → AlikeSplits (Stored R) v w → IntentsAgree k l (intent_of k a rs v) (intent_of l b ss w)
    split_agrees _ _ (both_stand r) = ends_agree _ _ r _ _ (newest_alike (Stored R) a.services b.services x.services)
    split_agrees _ _ (both_split {cs = cs} {ds = ds} {r = y} {s = z} e same) = ready_agrees cs ds e y z same _ _ (redexes_ready k l a.store b.store R x.sides y z same)

    -- linked activities intent alike
    pub intends_agree : IntentsAgree k l (intent k rs n a) (intent l ss n b)
    intends_agree = split_agrees (split a.term) (split b.term) (alike_split (Stored R) a.term b.term x.term)
