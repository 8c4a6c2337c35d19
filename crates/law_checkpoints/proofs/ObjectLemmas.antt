-- The active object stays an object.
use Rattle.std.specs.Prelude.{◌≡◌, ℕ, ℤ, pos, negsuc, zero, suc, ◌+◌, ◌<◌, ◌≤◌, ◌+ℤ◌, ◌-ℤ◌, ◌*ℤ◌, int_lt, int_le, int_div, int_rem, ◌&&◌, true, false, List, [], ◌∷◌, ◌++◌, Option, Some, None, length, map}
use Rattle.std.proofs.Common.{refl, sym, ap, subst, ◌∙◌, arith, ⊎_elim}
use Rattle.asp_model.specs.Names.{Name, FutureShape, Text}
use Rattle.asp_model.specs.Term.{SignShape, Add, Subtract, Multiply, Divide, Remainder, Less, Equal, Head, Tree, Trees, node, none, more, Make, Get, Put, Call, Clone, Active, Serve, Pending, Let, Steps, If, Repeat, Operate, Print, Echo, Scatter, Size, Member, WaitAll, Environment, locations_below, own_locations}
use Rattle.asp_model.specs.Term as term
use Rattle.asp_model.specs.Split.{Context, Redex, Split, Stands, Splits, split}
use Rattle.asp_model.specs.Store.{MethodShape, CellShape, Number, Object, Reference, Future, Group, Store, cell, with_cell, moved_cell}
use Rattle.asp_model.specs.Parcel.{parcel_of, visit_order, number_in, unpack}
use Rattle.asp_model.specs.Contraction.{Contraction, Becomes, Faults, Needs, Communicates, Breaks, Creates, Sends, Serves, Polls, LineShape, row, contract, is_future, strict_operands, strict_members}
use Rattle.asp_model.specs.Contraction as rows
use Rattle.asp_model.specs.Chase.{Chase, Value, Unfilled, Cycle}
use Rattle.asp_model.specs.Configuration.{RequestShape, ServiceShape, Activity}
use Rattle.asp_model.specs.Intent.{Intent, Acts, Rests, Awaits, Effect, Ready, Reads, Lacks, fetched, operand_ready, operands_ready, redex_ready, oldest_match, labels_served, Numbered, serves, newest, ends_service, contracts, intent}
use Rattle.law_chases.proofs.FutureLemmas.{no_some, some_is}
use Rattle.law_steps.specs.Closed.{AreBelow, IsClosedStore, IsClosedActivity, SplitBelow, places_of}
use Rattle.law_steps.proofs.EachLemmas.{below_more}
use Rattle.law_steps.proofs.PlacesLemmas.{front, back, split_is_below}
use Rattle.law_steps.proofs.VisitLemmas.{order_visited, first_number}
use Rattle.law_steps.proofs.RowLemmas.{Closes, contract_closes}
use Rattle.law_steps.proofs.ClosedLemmas.{ReadsClosed, IsReadFrom, redex_closed}
use Rattle.law_paths.proofs.ActiveLemmas.{unpacked_stays}
use Rattle.law_paths.proofs.CellLemmas.{cell_front, cell_map, cell_there, cell_elsewhere}
use Rattle.law_paths.proofs.DeliveredLemmas.{number_case}
use Rattle.law_paths.proofs.PackedLemmas.{cell_numbered}
use Rattle.law_paths.proofs.ReadyLemmas.{StaysPlain}
use Rattle.law_checkpoints.specs.Sound.{IsObject}
use Rattle.law_checkpoints.proofs.LookLemmas.{no_future}

moved_object : (f : ℕ → ℕ) (c : CellShape) → IsObject c → IsObject (moved_cell f c)
moved_object f (Object fields methods) h = tt
moved_object f (Number n) h = absurd h
moved_object f (Reference n) h = absurd h
moved_object f (Future g) h = absurd h
moved_object f (Group ns) h = absurd h

-- Stores that are read

abbrev ReadStays : Store → Ready → Type 0
ReadStays s (Reads t) = StaysPlain s t × (length s ≤ length t)
ReadStays s (Lacks f) = Unit {0}

module _ (k : FutureShape → Chase) where
  fetched_stays : (s : Store) (n : ℕ) (c : Chase) → is_future (cell s n) ≡ true → ReadStays s (fetched s n c)
  fetched_stays s n (Value f p) h = unpacked_stays s n p h
  fetched_stays s n (Unfilled f) h = tt
  fetched_stays s n (Cycle f) h = tt

  operand_stays : (s : Store) (n : ℕ) (c : CellShape) → cell s n ≡ c → ReadStays s (operand_ready k s n c)
  operand_stays s n (Future f) e = fetched_stays s n (k f) (ap is_future e)
  operand_stays s n (Number z) e = (λ j lt d. refl, omega arith)
  operand_stays s n (Object fs ms) e = (λ j lt d. refl, omega arith)
  operand_stays s n (Reference m) e = (λ j lt d. refl, omega arith)
  operand_stays s n (Group ns) e = (λ j lt d. refl, omega arith)

  then_stays : (s : Store) (next : Store → Ready) → ((t : Store) → ReadStays t (next t)) → (r : Ready) → ReadStays s r → ReadStays s (elim r [ Reads t ↦ next t | Lacks f ↦ Lacks f ])
  then_stays s next to (Lacks f) h = tt
  then_stays s next to (Reads t) h = later (next t) (to t)
    where
      later : (r : Ready) → ReadStays t r → ReadStays s r
      later (Lacks f) x = tt
      later (Reads u) x = (λ j lt e. x.0 j (omega (arith, lt, h.1)) (ap is_future (h.0 j lt e) ∙ e) ∙ h.0 j lt e, omega (arith, h.1, x.1))

  operands_stay : (ns : List ℕ) (s : Store) → ReadStays s (operands_ready k s ns)
  operands_stay [] s = (λ j lt e. refl, omega arith)
  operands_stay (n ∷ ns) s = then_stays s (λ t. operands_ready k t ns) (operands_stay ns) (operand_ready k s n (cell s n)) (operand_stays s n (cell s n) refl)

  redex_stays : (s : Store) (r : Redex) → ReadStays s (redex_ready k s r)
  redex_stays s r = then_stays s (λ t. operands_ready k t (strict_members t r.head r.places)) (λ t. operands_stay (strict_members t r.head r.places) t) (operands_ready k s (strict_operands r.head r.places)) (operands_stay (strict_operands r.head r.places) s)

-- Rows

module _ (s : Store) (i : ℕ) (lt : i < length s) (object : IsObject (cell s i)) where
  -- the cell at i is an object after the contraction, and a new activity is made of one
  abbrev Keeps : Contraction → Type 0
  Keeps (Becomes t u lines) = IsObject (cell u i)
  Keeps (Communicates (Creates k service)) = IsObject (cell s k)
  Keeps c = Unit {0}

  goes : (t : Tree) (lines : List LineShape) → Keeps (Becomes t s lines)
  goes t lines = object

  allots : (c : CellShape) (lines : List LineShape) → Keeps (rows.allots s c lines)
  allots c lines = subst IsObject (sym (cell_front s (c ∷ []) i lt)) object

  in_range : (z : ℤ) → Keeps (rows.in_range s z)
  in_range z = elim (rows.is_in_range z) as (λ b. Keeps (elim b [ true ↦ rows.allots s (Number z) [] | false ↦ Faults rows.Overflow ])) [ true ↦ allots (Number z) [] | false ↦ tt ]

  remains : (x y : ℤ) → Keeps (rows.remainder_in_range s x y)
  remains x y = elim (rows.is_in_range (int_div x y)) as (λ b. Keeps (elim b [ true ↦ rows.allots s (Number (int_rem x y)) [] | false ↦ Faults rows.Overflow ])) [ true ↦ allots (Number (int_rem x y)) [] | false ↦ tt ]

  unless : (z : ℤ) (c : Contraction) → Keeps c → Keeps (rows.unless_zero z c)
  unless (pos zero) c h = tt
  unless (pos (suc n)) c h = h
  unless (negsuc n) c h = h

  operates : (sign : SignShape) (x y : ℤ) → Keeps (rows.operate s sign x y)
  operates Add x y = in_range (x +ℤ y)
  operates Subtract x y = in_range (x -ℤ y)
  operates Multiply x y = in_range (x *ℤ y)
  operates Divide x y = unless y _ (in_range (int_div x y))
  operates Remainder x y = unless y _ (remains x y)
  operates Less x y = allots (Number (rows.truth (int_lt x y))) []
  operates Equal x y = allots (Number (rows.truth (int_le x y && int_le y x))) []

  operate_by : (sign : SignShape) (c d : CellShape) → Keeps (rows.operate_row s sign c d)
  operate_by sign (Number x) (Number y) = operates sign x y
  operate_by sign c d = tt

  field_by : (o : Option ℕ) → Keeps (rows.field_found s o)
  field_by None = tt
  field_by (Some n) = goes (term.loc n) []

  get_by : (l : Text) (c : CellShape) → Keeps (rows.get_row s l c)
  get_by l (Object fs ms) = field_by (rows.field_place l fs)
  get_by l (Number z) = tt
  get_by l (Reference n) = tt
  get_by l (Future f) = tt
  get_by l (Group ns) = tt

  written_stays : (j : ℕ) (c : CellShape) → IsObject c → IsObject (cell (with_cell s j c) i)
  written_stays j c h = ⊎_elim
      (λ e. subst (λ x. IsObject (cell (with_cell s x c) i)) e (subst IsObject (sym (cell_there s i c lt)) h))
      (λ ne. subst IsObject (sym (cell_elsewhere s j i c ne)) object)
      (number_case i j)

  set_by : (j : ℕ) (c : CellShape) (o : Option ℕ) → IsObject c → Keeps (rows.field_set s j c o)
  set_by j c None h = tt
  set_by j c (Some n) h = written_stays j c h

  put_by : (l : Text) (j n : ℕ) (c : CellShape) → Keeps (rows.put_row s l j n c)
  put_by l j n (Object fs ms) = set_by j (Object (rows.with_field l n fs) ms) (rows.field_place l fs) tt
  put_by l j n (Number z) = tt
  put_by l j n (Reference m) = tt
  put_by l j n (Future f) = tt
  put_by l j n (Group ns) = tt

  invoked_by : (t : Tree) (o : Option Environment) → Keeps (rows.invoked s t o)
  invoked_by t None = tt
  invoked_by t (Some bs) = goes (term.put_in bs t) []

  method_by : (j : ℕ) (js : List ℕ) (o : Option MethodShape) → Keeps (rows.method_found s j js o)
  method_by j js None = tt
  method_by j js (Some m) = invoked_by m.body (rows.bindings (m.head.slf ∷ m.head.parameters) (j ∷ js))

  call_by : (l : Text) (j : ℕ) (js : List ℕ) (c : CellShape) → Keeps (rows.call_row s l j js c)
  call_by l j js (Object fs ms) = method_by j js (rows.method_at l ms)
  call_by l j js (Group ns) = goes (node term.Group (rows.broadcast l ns js)) []
  call_by l j js (Reference n) = tt
  call_by l j js (Number z) = tt
  call_by l j js (Future f) = tt

  active_by : (j : ℕ) (service : Option Text) (c : CellShape) → cell s j ≡ c → Keeps (rows.active_row j service c)
  active_by j service (Object fs ms) e = subst IsObject (sym e) tt
  active_by j service (Number z) e = tt
  active_by j service (Reference n) e = tt
  active_by j service (Future f) e = tt
  active_by j service (Group ns) e = tt

  if_by : (t u : Tree) (c : CellShape) → Keeps (rows.if_row s t u c)
  if_by t u (Number (pos zero)) = goes u []
  if_by t u (Number (pos (suc n))) = goes t []
  if_by t u (Number (negsuc n)) = goes t []
  if_by t u c = tt

  print_by : (j : ℕ) (c : CellShape) → Keeps (rows.print_row s j c)
  print_by j (Number z) = goes (term.loc j) (rows.NumberLine z ∷ [])
  print_by j c = tt

  sizes_by : (o : Option Trees) → Keeps (rows.sizes_compared s o)
  sizes_by None = tt
  sizes_by (Some ts) = goes (node term.Group ts) []

  scatter_by : (l : Text) (c d : CellShape) → Keeps (rows.scatter_row s l c d)
  scatter_by l (Group ns) (Group js) = sizes_by (rows.scattered l ns js)
  scatter_by l c d = tt

  size_by : (c : CellShape) → Keeps (rows.size_row s c)
  size_by (Group ns) = allots (Number (pos (length ns))) []
  size_by c = tt

  found_by : (o : Option ℕ) → Keeps (rows.member_found s o)
  found_by None = tt
  found_by (Some n) = goes (term.loc n) []

  member_by : (c d : CellShape) → Keeps (rows.member_row s c d)
  member_by (Group ns) (Number (pos n)) = found_by (rows.member_at ns n)
  member_by (Group ns) (Number (negsuc n)) = tt
  member_by (Group ns) d = tt
  member_by c d = tt

  wait_by : (j : ℕ) (c : CellShape) → Keeps (rows.wait_row s j c)
  wait_by j (Group ns) = goes (term.loc j) []
  wait_by j c = tt

  row_keeps : (h : Head) (ns : List ℕ) (ts : Trees) → Keeps (row s h ns ts)
  row_keeps (term.Number z) [] none = allots (Number z) []
  row_keeps (Make ls ms) ns ts = allots (Object (rows.fields_at ls ns) (rows.methods_with ms ts)) []
  row_keeps (Echo w) [] none = allots (Object [] []) (rows.TextLine w ∷ [])
  row_keeps (Get l) (j ∷ []) none = get_by l (cell s j)
  row_keeps (Put l) (j ∷ n ∷ []) none = put_by l j n (cell s j)
  row_keeps (Call l) (j ∷ js) none = call_by l j js (cell s j)
  row_keeps Clone (j ∷ []) none = allots (cell s j) []
  row_keeps (Active l) (j ∷ []) none = active_by j l (cell s j) refl
  row_keeps (Serve ls) [] none = tt
  row_keeps (Pending ls) [] none = tt
  row_keeps (Let x) (j ∷ []) (more t none) = goes (term.put_in ((x, j) ∷ []) t) []
  row_keeps Steps (j ∷ []) ts = goes (rows.remaining ts) []
  row_keeps If (j ∷ []) (more t (more u none)) = if_by t u (cell s j)
  row_keeps Repeat [] (more t none) = goes (node Steps (more t (more (node Repeat (more t none)) none))) []
  row_keeps (Operate sign) (j ∷ n ∷ []) none = operate_by sign (cell s j) (cell s n)
  row_keeps Print (j ∷ []) none = print_by j (cell s j)
  row_keeps term.Group ns none = allots (Group ns) []
  row_keeps (Scatter l) (j ∷ n ∷ []) none = scatter_by l (cell s j) (cell s n)
  row_keeps Size (j ∷ []) none = size_by (cell s j)
  row_keeps Member (j ∷ n ∷ []) none = member_by (cell s j) (cell s n)
  row_keeps WaitAll (j ∷ []) none = wait_by j (cell s j)
  row_keeps h ns ts = tt

  needed : (o : Option ℕ) (c : Contraction) → Keeps c → Keeps (elim o [ Some n ↦ Needs n | None ↦ c ])
  needed None c h = h
  needed (Some n) c h = tt

  pub contract_keeps : (r : Redex) → Keeps (contract s r)
  contract_keeps r = needed _ _ (row_keeps r.head r.places r.behind)

-- Intents

abbrev pub HasObject : Activity → Type 0
HasObject a = IsObject (cell a.store a.active)

abbrev pub EffectKeeps : Effect → Type 0
EffectKeeps e = HasObject e.own × ((z : Name × Activity) → e.made ≡ Some z → HasObject z.1)

abbrev IntentKeeps : Intent → Type 0
IntentKeeps (Acts e) = EffectKeeps e
IntentKeeps (Rests status) = Unit {0}

-- the root of a copy
copied_root : (s : Store) (i : ℕ) → IsClosedStore s → i < length s → IsObject (cell s i) → IsObject (cell (unpack [] (parcel_of s (i ∷ []))) 0)
copied_root s i h lt object =
    let order = visit_order s (i ∷ []) in
    let ix = number_in order in
    let F : ℕ → CellShape = λ p. moved_cell ix (cell s p) in
    let v = order_visited s h (i ∷ []) (lt, tt) in
    let at : cell (map F order) 0 ≡ F i = ap (cell (map F order)) (sym (first_number s i h lt)) ∙ cell_numbered F order i v.came.0 in
    subst IsObject (sym (cell_map (λ n. n + 0) (map F order) 0)) (moved_object (λ n. n + 0) (cell (map F order) 0) (subst IsObject (sym at) (moved_object ix (cell s i) object)))

module _ (requests : List RequestShape) (n : Name) (a : Activity) (h : IsClosedActivity a) (object : HasObject a) where
  grown : (s : Store) (c : CellShape) → a.active < length s → IsObject (cell s a.active) → IsObject (cell (s ++ c ∷ []) a.active)
  grown s c lt e = subst IsObject (sym (cell_front s (c ∷ []) a.active lt)) e

  serving : (contexts : List Context) (o : Option Numbered) → IntentKeeps (serves a contexts o)
  serving contexts None = tt
  serving contexts (Some x) = (subst IsObject (sym (cell_front a.store (map (moved_cell (λ n. n + length a.store)) x.1.arguments.cells) a.active h.active)) object, λ z d. no_some d)

  ending : (place : ℕ) (o : Option ServiceShape) → IntentKeeps (ends_service a place o)
  ending place None = tt
  ending place (Some v) = (object, λ z d. no_some d)

  contracting : (contexts : List Context) (s : Store) → IsClosedStore s → (lt : a.active < length s) → (e : IsObject (cell s a.active)) → (c : Contraction) → Keeps s a.active lt e c → Closes s c → IntentKeeps (contracts requests n a contexts s c)
  contracting contexts s k lt e (Becomes t u lines) x y = (x, λ z d. no_some d)
  contracting contexts s k lt e (Faults f) x y = tt
  contracting contexts s k lt e (Needs place) x y = tt
  contracting contexts s k lt e (Communicates (Creates place service)) x y = (grown s _ lt e, λ z d. subst (λ w. HasObject w.1) (some_is d) (copied_root s place k y x))
  contracting contexts s k lt e (Communicates (Sends to label arguments)) x y = (grown s _ lt e, λ z d. no_some d)
  contracting contexts s k lt e (Communicates (Serves labels)) x y = serving contexts (oldest_match (labels_served labels (cell s a.active)) a.served 0 requests)
  contracting contexts s k lt e (Communicates (Polls labels)) x y = (grown s _ lt e, λ z d. no_some d)
  contracting contexts s k lt e Breaks x y = tt

  reading : (contexts : List Context) (redex : Redex) → AreBelow (length a.store) (places_of redex) → (r : Ready) → ReadStays a.store r → IsReadFrom (length a.store) r → IntentKeeps (elim r [ Lacks f ↦ Rests (Awaits f) | Reads s ↦ contracts requests n a contexts s (contract s redex) ])
  reading contexts redex below (Lacks f) x y = tt
  reading contexts redex below (Reads s) x y =
      let lt : a.active < length s = omega (arith, h.active, x.1) in
      let e = subst IsObject (sym (x.0 a.active h.active (no_future (cell a.store a.active) object))) object in
      contracting contexts s y.0 lt e (contract s redex) (contract_keeps s a.active lt e redex) (contract_closes s y.0 redex (below_more (length a.store) (length s) y.1 (places_of redex) below))

  module _ (k : FutureShape → Chase) (read : ReadsClosed k) where
    splitting : (t : Split) → SplitBelow (length a.store) t → IntentKeeps (elim t [
      | Stands place ↦ ends_service a place (newest a.services)
      | Splits contexts redex ↦ elim (redex_ready k a.store redex) [ Lacks f ↦ Rests (Awaits f) | Reads s ↦ contracts requests n a contexts s (contract s redex) ]
    ])
    splitting (Stands place) below = ending place (newest a.services)
    splitting (Splits contexts redex) below =
        let places = front (length a.store) redex.places (locations_below redex.behind) (back (length a.store) (own_locations redex.head) (redex.places ++ locations_below redex.behind) below.1) in
        reading contexts redex below.1 (redex_ready k a.store redex) (redex_stays k a.store redex) (redex_closed k read a.store redex places h.store)

    pub intent_keeps : (e : Effect) → intent k requests n a ≡ Acts e → EffectKeeps e
    intent_keeps e is = subst IntentKeeps is (splitting (split a.term) (split_is_below (length a.store) a.term h.term))
