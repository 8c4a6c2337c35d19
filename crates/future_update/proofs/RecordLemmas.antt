-- What the records tell, and how they change.
use Rattle.std.proofs.Common.{◌≡◌, ◌≢◌, ◌⊎◌, inl, inr, ℕ, suc, ◌+◌, ◌<◌, ◌≤◌, ◌==◌, Bool, true, false, cond, eqb, List, [], ◌∷◌, ◌++◌, Option, Some, None, length, map, get_or, refl, sym, ap, ◌∙◌, subst, arith, length-append}
use Rattle.std.specs.Prelude.{◌||◌, ◌&&◌, not, position, is_some, IsSome, if◌then◌else◌, leb}
use Rattle.std.specs.Map.{lookup}
use Rattle.std.specs.Option.{option_map}
use Rattle.std.proofs.lemmas.List.{map-append}
use Rattle.indexmap.specs.IndexMap.{insert_entry}
use Rattle.std.specs.List.{AllByRecursion, list_any}
use Rattle.std.specs.Map.{keys_of}
use Rattle.std.proofs.lemmas.Bool.{eq-eqb, eqb-true}
use Rattle.std.proofs.lemmas.Bool.Decides.{eqb_tells, leb_tells}
use Rattle.std.proofs.lemmas.List.{get_or_append_left, get_or_past, get_or_push}
use Rattle.std.proofs.lemmas.List.Folds.{list_any_at}
use Rattle.std.proofs.lemmas.List.Quantifiers.{position-Some}
use Rattle.asp_model.specs.Names.{Name, same_name, same_future}
use Rattle.def_journals.specs.Edges.{EdgeShape, has_edge, has_filled, has_received, home_of, is_no_edge, same_edge, with_delivered, with_edge, with_received}
use Rattle.future_update.specs.declared.numbered.Future.{Future}
use Rattle.future_update.specs.declared.numbered.Edge.{Edge}
use Rattle.future_update.specs.declared.numbered.Receipt.{Receipt}
use Rattle.core_sets.specs.declared.ticks.Ticks.{Ticks}
use Rattle.future_update.specs.Names.{AreNames, IsKnownFuture, IsKnownEdge, edge_of, future_of, name_of}
use Rattle.future_update.specs.Numbered.{AreEdges, AreFutures, IsKnownHome, IsKnownReceipt, IsPassed, edge_at, future_at, is_edge, is_future, is_receipt, no_edge, no_future, receipt_entry}
use Rattle.future_update.specs.declared.records.Records.{Records}
use Rattle.future_update.specs.Records.{AreRecords, names_of, shape_of}
use Rattle.core_sets.specs.Ticks.{AreTicks, is_among, size}
use Rattle.future_update.proofs.NameLemmas.{clash}
use Rattle.future_update.proofs.NumberLemmas.{all_at, all_more, all_so, any_map, is_edge_same, is_future_same, receipt_kept, edge_kept, home_kept, same_edges, same_futures, same_names, truth}

-- Ticks

all_among : (P : ℕ → Type 0) (xs : List ℕ) → ((j : ℕ) → is_among j xs ≡ true → P j) → AllByRecursion P xs
all_among P [] h = tt
all_among P (x ∷ xs) h = (h x (ap (λ b. b || is_among x xs) (eq-eqb x x refl)), all_among P xs (λ j e. h j (ap (λ b. (j == x) || b) e ∙ or_true (j == x))))
  where
    or_true : (b : Bool) → (b || true) ≡ true
    or_true true = refl
    or_true false = refl

-- what is ticked off is there
pub ticks_below : (t : Ticks) (n : ℕ) → AreTicks t → size t ≡ n → AllByRecursion (λ j. j < n) t.order.items
ticks_below t n ticks same = all_among (λ j. j < n) t.order.items (λ j e. within j (ticks.told j ∙ e))
  where
    within : (j : ℕ) → get_or t.done.items j false ≡ true → j < n
    within j e = elim (leb_tells n j) [
      | inl h ↦ clash e (get_or_past t.done.items j false (omega (arith, h.1, same)))
      | inr h ↦ h.1
    ]

-- By their places

-- where two places of a list hold one only if they are one
placed : {X : Type 0} (same : X → X → Bool) (at : ℕ → X) (n i : ℕ) → i < n → ((x y : X) → same x y ≡ true → x ≡ y) → ((x : X) → same x x ≡ true) → ((i j : ℕ) → i < n → j < n → at i ≡ at j → i ≡ j) → (j : ℕ) → j < n → same (at i) (at j) ≡ (i == j)
placed same at n i lt tells itself apart j lt_j = elim (eqb_tells i j) [
  | inl e ↦ subst (λ k. same (at i) (at k) ≡ true) e.1 (itself (at i)) ∙ sym e.0
  | inr e ↦ truth (same (at i) (at j)) (λ s. e.1 (apart i j lt lt_j (tells (at i) (at j) s))) ∙ sym e.0
]

pub future_itself : (f : Future) → is_future f f ≡ true
future_itself f = λ i. eq-eqb f.by f.by refl i && eq-eqb f.index f.index refl i

pub edge_itself : (x : Edge) → is_edge x x ≡ true
edge_itself x = λ i. future_itself x.future i && (eq-eqb x.from x.from refl i && eq-eqb x.to x.to refl i)

pub delivered_kept : (ns : List Name) → AreNames ns → (es : List Edge) → AllByRecursion (IsKnownEdge ns) es → AreEdges es → (p : ℕ) → p < length es → (order : List ℕ) → AllByRecursion (λ j. j < length es) order → has_edge (edge_of ns (edge_at es p)) (map (λ j. edge_of ns (edge_at es j)) order) ≡ is_among p order
delivered_kept ns names es known apart p lt order within =
    any_map (same_edge (edge_of ns (edge_at es p))) (λ j. p == j) (λ j. edge_of ns (edge_at es j)) order (all_so (λ j. j < length es) (λ j. same_edge (edge_of ns (edge_at es p)) (edge_of ns (edge_at es j)) ≡ (p == j)) order
    (λ j lt_j. same_edges ns names (edge_at es p) (edge_at es j) (all_at (IsKnownEdge ns) es p no_edge lt known) (all_at (IsKnownEdge ns) es j no_edge lt_j known) ∙ placed is_edge (edge_at es) (length es) p lt is_edge_same edge_itself apart j lt_j) within)

pub filled_kept : (ns : List Name) → AreNames ns → (f : Future) → IsKnownFuture ns f → (fs : List Future) → AllByRecursion (IsKnownFuture ns) fs → AreFutures fs → (i : ℕ) → position (is_future f) fs ≡ Some i → (order : List ℕ) → AllByRecursion (λ j. j < length fs) order → has_filled (future_of ns f) (map (λ j. future_of ns (future_at fs j)) order) ≡ is_among i order
filled_kept ns names f known_f fs known apart i here order within =
    let at = position-Some (is_future f) fs i no_future here in
    let same : f ≡ future_at fs i = is_future_same f (future_at fs i) at.1 in
    any_map (same_future (future_of ns f)) (λ j. i == j) (λ j. future_of ns (future_at fs j)) order (all_so (λ j. j < length fs) (λ j. same_future (future_of ns f) (future_of ns (future_at fs j)) ≡ (i == j)) order
    (λ j lt_j. same_futures ns names f (future_at fs j) known_f (all_at (IsKnownFuture ns) fs j no_future lt_j known) ∙ ap (λ g. is_future g (future_at fs j)) same ∙ placed is_future (future_at fs) (length fs) i at.0 is_future_same future_itself apart j lt_j) within)

pub filled_none : (ns : List Name) → AreNames ns → (f : Future) → IsKnownFuture ns f → (fs : List Future) → AllByRecursion (IsKnownFuture ns) fs → list_any (is_future f) fs ≡ false → (order : List ℕ) → AllByRecursion (λ j. j < length fs) order → has_filled (future_of ns f) (map (λ j. future_of ns (future_at fs j)) order) ≡ false
filled_none ns names f known_f fs known absent order within =
    any_map (same_future (future_of ns f)) (λ j. false) (λ j. future_of ns (future_at fs j)) order (all_so (λ j. j < length fs) (λ j. same_future (future_of ns f) (future_of ns (future_at fs j)) ≡ false) order
    (λ j lt_j. same_futures ns names f (future_at fs j) known_f (all_at (IsKnownFuture ns) fs j no_future lt_j known) ∙ truth (is_future f (future_at fs j)) (λ e. clash (list_any_at (is_future f) fs j no_future lt_j e) absent)) within) ∙ none order
  where
    none : (xs : List ℕ) → list_any (λ j. false) xs ≡ false
    none [] = refl
    none (x ∷ xs) = none xs

-- Homes and their futures

pub all_keys : (ns : List Name) (es : List (Future × ℕ)) → AllByRecursion (IsKnownHome ns) es → AllByRecursion (IsKnownFuture ns) (keys_of es)
all_keys ns [] all = tt
all_keys ns (e ∷ es) all = (all.0.0, all_keys ns es all.1)

length_keys : (es : List (Future × ℕ)) → length (keys_of es) ≡ length es
length_keys [] = refl
length_keys (e ∷ es) = ap suc (length_keys es)

pub sized : (es : List (Future × ℕ)) (t : Ticks) → AreTicks t → size t ≡ length es → AllByRecursion (λ j. j < length (keys_of es)) t.order.items
sized es t ticks same = ticks_below t (length (keys_of es)) ticks (same ∙ sym (length_keys es))

pub absent_keys : (f : Future) (es : List (Future × ℕ)) → is_some (lookup (is_future f) es) ≡ false → list_any (is_future f) (keys_of es) ≡ false
absent_keys f [] absent = refl
absent_keys f (e ∷ es) absent = by (is_future f e.0) (absent_keys f es) absent
  where
    by : (b : Bool) → (is_some (lookup (is_future f) es) ≡ false → list_any (is_future f) (keys_of es) ≡ false) → is_some (cond b (Some e.1) (lookup (is_future f) es)) ≡ false → (b || list_any (is_future f) (keys_of es)) ≡ false
    by true rest h = clash refl h
    by false rest h = rest h

-- One more

apart_more : {X : Type 0} (d : X) (xs : List X) (y : X) → ((i j : ℕ) → i < length xs → j < length xs → get_or xs i d ≡ get_or xs j d → i ≡ j) → ((i : ℕ) → i < length xs → get_or xs i d ≢ y) → (i j : ℕ) → i < length xs + 1 → j < length xs + 1 → get_or (xs ++ y ∷ []) i d ≡ get_or (xs ++ y ∷ []) j d → i ≡ j
apart_more d xs y apart new i j lt_i lt_j same = by (leb_tells (length xs) i) (leb_tells (length xs) j)
  where
    last : (k : ℕ) → length xs ≤ k → k < length xs + 1 → get_or (xs ++ y ∷ []) k d ≡ y
    last k low high = get_or_push xs y d k (omega (arith, low, high))

    by : ((leb (length xs) i ≡ true) × (length xs ≤ i)) ⊎ ((leb (length xs) i ≡ false) × (i < length xs)) → ((leb (length xs) j ≡ true) × (length xs ≤ j)) ⊎ ((leb (length xs) j ≡ false) × (j < length xs)) → i ≡ j
    by (inl a) (inl b) = omega (arith, a.1, b.1, lt_i, lt_j)
    by (inl a) (inr b) = absurd (new j b.1 (sym (get_or_append_left xs (y ∷ []) d j b.1) ∙ sym same ∙ last i a.1 lt_i))
    by (inr a) (inl b) = absurd (new i a.1 (sym (get_or_append_left xs (y ∷ []) d i a.1) ∙ same ∙ last j b.1 lt_j))
    by (inr a) (inr b) = apart i j a.1 b.1 (sym (get_or_append_left xs (y ∷ []) d i a.1) ∙ same ∙ get_or_append_left xs (y ∷ []) d j b.1)

pub edges_more : (es fs : List Edge) (x : Edge) → AreEdges es → list_any (is_edge x) es ≡ false → fs ≡ es ++ x ∷ [] → AreEdges fs
edges_more es fs x apart new grown = subst AreEdges (sym grown) (λ i j lt_i lt_j. apart_more no_edge es x apart (λ k lt e. clash (list_any_at (is_edge x) es k no_edge lt (ap (is_edge x) e ∙ edge_itself x)) new) i j (omega (arith, lt_i, length-append es (x ∷ []))) (omega (arith, lt_j, length-append es (x ∷ []))))

pub futures_more : (es fs : List Future) (x : Future) → AreFutures es → list_any (is_future x) es ≡ false → fs ≡ es ++ x ∷ [] → AreFutures fs
futures_more es fs x apart new grown = subst AreFutures (sym grown) (λ i j lt_i lt_j. apart_more no_future es x apart (λ k lt e. clash (list_any_at (is_future x) es k no_future lt (ap (is_future x) e ∙ future_itself x)) new) i j (omega (arith, lt_i, length-append es (x ∷ []))) (omega (arith, lt_j, length-append es (x ∷ []))))

-- what stands at places that were there stays
same_places : {X Y : Type 0} (h : X → Y) (d : X) (xs : List X) (y : X) (order : List ℕ) → AllByRecursion (λ j. j < length xs) order → map (λ j. h (get_or (xs ++ y ∷ []) j d)) order ≡ map (λ j. h (get_or xs j d)) order
same_places h d xs y [] within = refl
same_places h d xs y (j ∷ js) within = λ i. h (get_or_append_left xs (y ∷ []) d j within.0 i) ∷ same_places h d xs y js within.1 i

pub delivered_stays : (ns : List Name) (es fs : List Edge) (x : Edge) (order : List ℕ) → fs ≡ es ++ x ∷ [] → AllByRecursion (λ j. j < length es) order → map (λ j. edge_of ns (edge_at fs j)) order ≡ map (λ j. edge_of ns (edge_at es j)) order
delivered_stays ns es fs x order grown within = ap (λ gs. map (λ j. edge_of ns (edge_at gs j)) order) grown ∙ same_places (edge_of ns) no_edge es x order within

pub filled_stays : (ns : List Name) (es fs : List Future) (x : Future) (order : List ℕ) → fs ≡ es ++ x ∷ [] → AllByRecursion (λ j. j < length es) order → map (λ j. future_of ns (future_at fs j)) order ≡ map (λ j. future_of ns (future_at es j)) order
filled_stays ns es fs x order grown within = ap (λ gs. map (λ j. future_of ns (future_at gs j)) order) grown ∙ same_places (future_of ns) no_future es x order within

pub inserted : (es fs : List Edge) (x : Edge) → list_any (is_edge x) es ≡ false → fs ≡ (if list_any (is_edge x) es then es else es ++ x ∷ []) → fs ≡ es ++ x ∷ []
inserted es fs x new keys = keys ∙ ap (λ b. if b then es else (es ++ x ∷ [])) new

pub edge_new : (r : Records) → AreRecords r → (x : Edge) → IsKnownEdge (names_of r) x → has_edge (edge_of (names_of r) x) (shape_of r).edges ≡ false → list_any (is_edge x) r.edges.keys ≡ false
edge_new r h x known new = sym (edge_kept (names_of r) h.names x known r.edges.keys (all_so (IsPassed (names_of r)) (IsKnownEdge (names_of r)) r.edges.keys (λ y e. e.0) h.edges)) ∙ new

-- an edge between two activities that is not kept is one more
pub passed_more : (r : Records) → AreRecords r → (x : Edge) → IsPassed (names_of r) x → has_edge (edge_of (names_of r) x) (shape_of r).edges ≡ false → with_edge (edge_of (names_of r) x) (shape_of r).edges ≡ (shape_of r).edges ++ edge_of (names_of r) x ∷ []
passed_more r h x passed new =
    let ns : List Name = names_of r in
    let ends : same_name (name_of ns x.from) (name_of ns x.to) ≡ false = same_names ns h.names x.from x.to passed.0.from passed.0.to ∙ truth (eqb x.from x.to) (λ e. passed.1 (eqb-true x.from x.to e)) in
    let kept : is_no_edge (edge_of ns x) (shape_of r).edges ≡ false = (λ i. ends i || new i) in
    ap (λ b. elim b [ true ↦ (shape_of r).edges | false ↦ (shape_of r).edges ++ edge_of ns x ∷ [] ]) kept

-- a future that has no home is not among those that have
pub home_new : (r : Records) → AreRecords r → (f : Future) → IsKnownFuture (names_of r) f → home_of (future_of (names_of r) f) (shape_of r).homes ≡ None → lookup (is_future f) r.homes.entries ≡ None
home_new r h f known new = absent (lookup (is_future f) r.homes.entries) (sym (home_kept (names_of r) h.names f known r.homes.entries h.homes) ∙ new)
  where
    absent : (o : Option ℕ) → option_map (name_of (names_of r)) o ≡ None → o ≡ None
    absent None e = refl
    absent (Some k) e = clash refl (ap is_some e)

entry_new : (f : Future) (k : ℕ) (es : List (Future × ℕ)) → lookup (is_future f) es ≡ None → insert_entry is_future es f k ≡ es ++ (f, k) ∷ []
entry_new f k [] new = refl
entry_new f k (e ∷ es) new = by (is_future f e.0) (entry_new f k es) new
  where
    by : (b : Bool) → (lookup (is_future f) es ≡ None → insert_entry is_future es f k ≡ es ++ (f, k) ∷ []) → cond b (Some e.1) (lookup (is_future f) es) ≡ None → (if b then ((e.0, k) ∷ es) else (e ∷ insert_entry is_future es f k)) ≡ (e ∷ es) ++ (f, k) ∷ []
    by true rest h = clash refl (ap is_some h)
    by false rest h = ap (λ xs. e ∷ xs) (rest h)

pub home_more : (f : Future) (k : ℕ) (es fs : List (Future × ℕ)) → lookup (is_future f) es ≡ None → fs ≡ insert_entry is_future es f k → fs ≡ es ++ (f, k) ∷ []
home_more f k es fs new grown = grown ∙ entry_new f k es new

pub keys_more : (f : Future) (k : ℕ) (es fs : List (Future × ℕ)) → fs ≡ es ++ (f, k) ∷ [] → keys_of fs ≡ keys_of es ++ f ∷ []
keys_more f k es fs grown = ap (λ (xs : List (Future × ℕ)). keys_of xs) grown ∙ map-append (λ (e : Future × ℕ). e.0) es ((f, k) ∷ [])

pub keys_new : (f : Future) (es : List (Future × ℕ)) → lookup (is_future f) es ≡ None → list_any (is_future f) (keys_of es) ≡ false
keys_new f es new = absent_keys f es (ap is_some new)

-- What the records tell

pub edges_known : (r : Records) → AreRecords r → AllByRecursion (IsKnownEdge (names_of r)) r.edges.keys
edges_known r h = all_so (IsPassed (names_of r)) (IsKnownEdge (names_of r)) r.edges.keys (λ y e. e.0) h.edges

pub delivered_so : (r : Records) → AreRecords r → (p : ℕ) → p < length r.edges.keys → has_edge (edge_of (names_of r) (edge_at r.edges.keys p)) (shape_of r).delivered ≡ is_among p r.delivered.order.items
delivered_so r h p lt = delivered_kept (names_of r) h.names r.edges.keys (edges_known r h) h.apart p lt r.delivered.order.items (ticks_below r.delivered (length r.edges.keys) h.delivered h.delivered_size)

pub filled_so : (r : Records) → AreRecords r → (f : Future) → IsKnownFuture (names_of r) f → (i : ℕ) → position (is_future f) (keys_of r.homes.entries) ≡ Some i → has_filled (future_of (names_of r) f) (shape_of r).filled ≡ is_among i r.filled.order.items
filled_so r h f known i here = filled_kept (names_of r) h.names f known (keys_of r.homes.entries) (all_keys (names_of r) r.homes.entries h.homes) h.futures i here r.filled.order.items (sized r.homes.entries r.filled h.filled h.filled_size)

pub edge_here : (r : Records) → AreRecords r → (p : ℕ) → p < length r.edges.keys → has_edge (edge_of (names_of r) (edge_at r.edges.keys p)) (shape_of r).edges ≡ true
edge_here r h p lt =
    let x : Edge = edge_at r.edges.keys p in
    edge_kept (names_of r) h.names x (all_at (IsKnownEdge (names_of r)) r.edges.keys p no_edge lt (edges_known r h)) r.edges.keys (edges_known r h) ∙ list_any_at (is_edge x) r.edges.keys p no_edge lt (edge_itself x)

-- an edge that is kept and was not delivered is delivered behind the others
pub delivered_more : (r : Records) → AreRecords r → (p : ℕ) → p < length r.edges.keys → has_edge (edge_of (names_of r) (edge_at r.edges.keys p)) (shape_of r).delivered ≡ false → with_delivered (edge_of (names_of r) (edge_at r.edges.keys p)) (shape_of r).edges (shape_of r).delivered ≡ (shape_of r).delivered ++ edge_of (names_of r) (edge_at r.edges.keys p) ∷ []
delivered_more r h p lt open_edge =
    let x : EdgeShape = edge_of (names_of r) (edge_at r.edges.keys p) in
    let chosen : (has_edge x (shape_of r).edges && not (has_edge x (shape_of r).delivered)) ≡ true = (λ i. edge_here r h p lt i && not (open_edge i)) in
    ap (λ b. elim b [ true ↦ (shape_of r).delivered ++ x ∷ [] | false ↦ (shape_of r).delivered ]) chosen

-- a receipt that was put in
pub receipt_more : (r : Records) → AreRecords r → (x : Receipt) → IsKnownReceipt (names_of r) x → (ks : List Receipt) → ks ≡ (if list_any (is_receipt x) r.received.keys then r.received.keys else r.received.keys ++ x ∷ []) → map (receipt_entry (names_of r)) ks ≡ with_received (future_of (names_of r) x.future) (name_of (names_of r) x.by) (shape_of r).received
receipt_more r h x known ks grown =
    by (list_any (is_receipt x) r.received.keys) (receipt_kept (names_of r) h.names x known r.received.keys h.received) grown
  where
    ns : List Name
    ns = names_of r

    by : (b : Bool) → has_received (future_of ns x.future) (name_of ns x.by) (shape_of r).received ≡ b → ks ≡ (if b then r.received.keys else r.received.keys ++ x ∷ []) → map (receipt_entry ns) ks ≡ elim (has_received (future_of ns x.future) (name_of ns x.by) (shape_of r).received) [ true ↦ (shape_of r).received | false ↦ (shape_of r).received ++ receipt_entry ns x ∷ [] ]
    by true e g = ap (map (receipt_entry ns)) g ∙ sym (ap (λ b. elim b [ true ↦ (shape_of r).received | false ↦ (shape_of r).received ++ receipt_entry ns x ∷ [] ]) e)
    by false e g = ap (map (receipt_entry ns)) g ∙ map-append (receipt_entry ns) r.received.keys (x ∷ []) ∙ sym (ap (λ b. elim b [ true ↦ (shape_of r).received | false ↦ (shape_of r).received ++ receipt_entry ns x ∷ [] ]) e)

pub receipts_known : (r : Records) → AreRecords r → (x : Receipt) → IsKnownReceipt (names_of r) x → (ks : List Receipt) → ks ≡ (if list_any (is_receipt x) r.received.keys then r.received.keys else r.received.keys ++ x ∷ []) → AllByRecursion (IsKnownReceipt (names_of r)) ks
receipts_known r h x known ks grown = subst (AllByRecursion (IsKnownReceipt (names_of r))) (sym grown) (by (list_any (is_receipt x) r.received.keys))
  where
    by : (b : Bool) → AllByRecursion (IsKnownReceipt (names_of r)) (if b then r.received.keys else r.received.keys ++ x ∷ [])
    by true = h.received
    by false = all_more (IsKnownReceipt (names_of r)) r.received.keys x h.received known

-- a future that has a home has a place among those
pub home_there : (r : Records) → AreRecords r → (f : Future) → IsKnownFuture (names_of r) f → IsSome (home_of (future_of (names_of r) f) (shape_of r).homes) → is_some (lookup (is_future f) r.homes.entries) ≡ false → ⊥
home_there r h f known there absent = none (lookup (is_future f) r.homes.entries) (home_kept (names_of r) h.names f known r.homes.entries h.homes) absent
  where
    none : (o : Option ℕ) → home_of (future_of (names_of r) f) (shape_of r).homes ≡ option_map (name_of (names_of r)) o → is_some o ≡ false → ⊥
    none None e _ = clash (sym (ap is_some e) ∙ there) refl
    none (Some k) e e' = clash refl e'

pub found_future : (f : Future) (es : List (Future × ℕ)) (i : ℕ) → position (is_future f) (keys_of es) ≡ Some i → f ≡ future_at (keys_of es) i
found_future f es i here = is_future_same f (future_at (keys_of es) i) (position-Some (is_future f) (keys_of es) i no_future here).1

pub unfilled_new : (r : Records) → AreRecords r → (f : Future) → IsKnownFuture (names_of r) f → home_of (future_of (names_of r) f) (shape_of r).homes ≡ None → has_filled (future_of (names_of r) f) (shape_of r).filled ≡ false
unfilled_new r h f known new = filled_none (names_of r) h.names f known (keys_of r.homes.entries) (all_keys (names_of r) r.homes.entries h.homes) (keys_new f r.homes.entries (home_new r h f known new)) r.filled.order.items (sized r.homes.entries r.filled h.filled h.filled_size)
