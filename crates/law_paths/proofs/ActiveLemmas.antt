-- The active object stays what it is: its cell is no future, and no step changes that.
use Rattle.std.specs.Prelude.{◌≡◌, ℕ, ℤ, pos, negsuc, zero, suc, ◌+◌, ◌<◌, ◌≤◌, ◌+ℤ◌, ◌-ℤ◌, ◌*ℤ◌, int_lt, int_le, int_div, int_rem, ◌&&◌, true, false, List, [], ◌∷◌, ◌++◌, Option, Some, None, length, map}
use Rattle.std.proofs.Common.{refl, sym, ap, subst, ◌∙◌, arith, ⊎_elim, length-append}
use Rattle.asp_model.specs.Names.{Name, FutureShape, Text}
use Rattle.asp_model.specs.Term.{SignShape, Add, Subtract, Multiply, Divide, Remainder, Less, Equal, Head, Tree, Trees, node, none, more, Make, Get, Put, Call, Clone, Active, Serve, Pending, Let, Steps, If, Repeat, Operate, Print, Echo, Scatter, Size, Member, WaitAll, Environment, locations_below, own_locations}
use Rattle.asp_model.specs.Term as term
use Rattle.asp_model.specs.Split.{Context, Redex, Split, Stands, Splits, split}
use Rattle.asp_model.specs.Store.{MethodShape, CellShape, Number, Object, Reference, Future, Group, Store, cell, with_cell, moved_cell}
use Rattle.asp_model.specs.Parcel.{ParcelShape, parcel_of, visit_order, number_in, unpack, unpack_at, place_at}
use Rattle.asp_model.specs.Contraction.{Contraction, Becomes, Faults, Needs, Communicates, Breaks, Creates, Sends, Serves, Polls, LineShape, row, contract, is_future, strict_operands, strict_members}
use Rattle.asp_model.specs.Contraction as rows
use Rattle.asp_model.specs.Chase.{Chase, Value, Unfilled, Cycle}
use Rattle.asp_model.specs.Configuration.{RequestShape, ServiceShape, Activity}
use Rattle.asp_model.specs.Intent.{Intent, Acts, Rests, Awaits, Effect, Ready, Reads, Lacks, fetched, operand_ready, operands_ready, redex_ready, oldest_match, labels_served, Numbered, serves, newest, ends_service, contracts, intent}
use Rattle.law_steps.specs.Closed.{AreBelow, IsClosedStore, IsClosedActivity, SplitBelow, places_of}
use Rattle.law_chases.proofs.FutureLemmas.{no_some, some_is, none_true}
use Rattle.law_steps.proofs.EachLemmas.{below_more}
use Rattle.law_steps.proofs.MovedLemmas.{length_written}
use Rattle.law_steps.proofs.PlacesLemmas.{front, back, split_is_below}
use Rattle.law_steps.proofs.VisitLemmas.{order_visited, first_number}
use Rattle.law_steps.proofs.RowLemmas.{Closes, contract_closes}
use Rattle.law_steps.proofs.ClosedLemmas.{ReadsClosed, IsReadFrom, redex_closed}
use Rattle.law_paths.proofs.CellLemmas.{cell_front, cell_map, cell_there, cell_elsewhere}
use Rattle.law_paths.proofs.DeliveredLemmas.{number_case}
use Rattle.law_paths.proofs.PackedLemmas.{cell_numbered}
use Rattle.law_paths.proofs.ReadyLemmas.{StaysPlain, moved_future}

-- Stores that are read

abbrev ReadStays : Store → Ready → Type 0
ReadStays s (Reads t) = StaysPlain s t × (length s ≤ length t)
ReadStays s (Lacks f) = Unit {0}

pub unpacked_stays : (s : Store) (n : ℕ) (p : ParcelShape) → is_future (cell s n) ≡ true → StaysPlain s (unpack_at s n p) × (length s ≤ length (unpack_at s n p))
unpacked_stays s n p held = by p.cells
  where
    by : (cells : List CellShape) → (let t : Store = unpack_at s n (record { cells = cells; roots = p.roots }) in StaysPlain s t × (length s ≤ length t))
    by [] = (λ j lt e. refl, omega arith)
    by (c ∷ cs) =
        let d = moved_cell (place_at (length s) n) c in
        let ds = map (moved_cell (place_at (length s) n)) cs in (
          λ j lt e. ⊎_elim
              (λ same. none_true (sym e ∙ ap (λ x. is_future (cell s x)) same ∙ held))
              (λ ne. cell_front (with_cell s n d) ds j (omega (arith, lt, length_written s n d)) ∙ cell_elsewhere s n j d ne)
              (number_case j n),
          omega (arith, length-append (with_cell s n d) ds, length_written s n d),
        )

module _ (k : FutureShape → Chase) where
  fetched_stays : (s : Store) (n : ℕ) (c : Chase) → is_future (cell s n) ≡ true → ReadStays s (fetched s n c)
  fetched_stays s n (Value f p) h = unpacked_stays s n p h
  fetched_stays s n (Unfilled f) h = tt
  fetched_stays s n (Cycle f) h = tt

  operand_stays : (s : Store) (n : ℕ) (c : CellShape) → cell s n ≡ c → ReadStays s (operand_ready k s n c)
  operand_stays s n (Future f) e = fetched_stays s n (k f) (ap is_future e)
  operand_stays s n (Number z) e = (λ j lt d. refl, omega arith)
  operand_stays s n (Object fs ms) e = (λ j lt d. refl, omega arith)
  operand_stays s n (Reference m) e = (λ j lt d. refl, omega arith)
  operand_stays s n (Group ns) e = (λ j lt d. refl, omega arith)

  then_stays : (s : Store) (next : Store → Ready) → ((t : Store) → ReadStays t (next t)) → (r : Ready) → ReadStays s r → ReadStays s (elim r [ Reads t ↦ next t | Lacks f ↦ Lacks f ])
  then_stays s next to (Lacks f) h = tt
  then_stays s next to (Reads t) h = later (next t) (to t)
    where
      later : (r : Ready) → ReadStays t r → ReadStays s r
      later (Lacks f) x = tt
      later (Reads u) x = (λ j lt e. x.0 j (omega (arith, lt, h.1)) (ap is_future (h.0 j lt e) ∙ e) ∙ h.0 j lt e, omega (arith, h.1, x.1))

  operands_stay : (ns : List ℕ) (s : Store) → ReadStays s (operands_ready k s ns)
  operands_stay [] s = (λ j lt e. refl, omega arith)
  operands_stay (n ∷ ns) s = then_stays s (λ t. operands_ready k t ns) (operands_stay ns) (operand_ready k s n (cell s n)) (operand_stays s n (cell s n) refl)

  redex_stays : (s : Store) (r : Redex) → ReadStays s (redex_ready k s r)
  redex_stays s r = then_stays s (λ t. operands_ready k t (strict_members t r.head r.places)) (λ t. operands_stay (strict_members t r.head r.places) t) (operands_ready k s (strict_operands r.head r.places)) (operands_stay (strict_operands r.head r.places) s)

-- Rows

module _ (s : Store) (i : ℕ) (lt : i < length s) (plain : is_future (cell s i) ≡ false) where
  -- the cell at i is no future after the contraction, and a new activity's object is none
  abbrev Keeps : Contraction → Type 0
  Keeps (Becomes t u lines) = (is_future (cell u i) ≡ false) × (i < length u)
  Keeps (Communicates (Creates object service)) = is_future (cell s object) ≡ false
  Keeps c = Unit {0}

  goes : (t : Tree) (lines : List LineShape) → Keeps (Becomes t s lines)
  goes t lines = (plain, lt)

  allots : (c : CellShape) (lines : List LineShape) → Keeps (rows.allots s c lines)
  allots c lines = (ap is_future (cell_front s (c ∷ []) i lt) ∙ plain, omega (arith, lt, length-append s (c ∷ [])))

  in_range : (z : ℤ) → Keeps (rows.in_range s z)
  in_range z = elim (rows.is_in_range z) as (λ b. Keeps (elim b [ true ↦ rows.allots s (Number z) [] | false ↦ Faults rows.Overflow ])) [ true ↦ allots (Number z) [] | false ↦ tt ]

  remains : (x y : ℤ) → Keeps (rows.remainder_in_range s x y)
  remains x y = elim (rows.is_in_range (int_div x y)) as (λ b. Keeps (elim b [ true ↦ rows.allots s (Number (int_rem x y)) [] | false ↦ Faults rows.Overflow ])) [ true ↦ allots (Number (int_rem x y)) [] | false ↦ tt ]

  unless : (z : ℤ) (c : Contraction) → Keeps c → Keeps (rows.unless_zero z c)
  unless (pos zero) c h = tt
  unless (pos (suc n)) c h = h
  unless (negsuc n) c h = h

  operates : (sign : SignShape) (x y : ℤ) → Keeps (rows.operate s sign x y)
  operates Add x y = in_range (x +ℤ y)
  operates Subtract x y = in_range (x -ℤ y)
  operates Multiply x y = in_range (x *ℤ y)
  operates Divide x y = unless y _ (in_range (int_div x y))
  operates Remainder x y = unless y _ (remains x y)
  operates Less x y = allots (Number (rows.truth (int_lt x y))) []
  operates Equal x y = allots (Number (rows.truth (int_le x y && int_le y x))) []

  operate_by : (sign : SignShape) (c d : CellShape) → Keeps (rows.operate_row s sign c d)
  operate_by sign (Number x) (Number y) = operates sign x y
  operate_by sign c d = tt

  field_by : (o : Option ℕ) → Keeps (rows.field_found s o)
  field_by None = tt
  field_by (Some n) = goes (term.loc n) []

  get_by : (l : Text) (c : CellShape) → Keeps (rows.get_row s l c)
  get_by l (Object fs ms) = field_by (rows.field_place l fs)
  get_by l (Number z) = tt
  get_by l (Reference n) = tt
  get_by l (Future f) = tt
  get_by l (Group ns) = tt

  written_stays : (j : ℕ) (c : CellShape) → is_future c ≡ false → is_future (cell (with_cell s j c) i) ≡ false
  written_stays j c h = ⊎_elim
      (λ e. ap (λ x. is_future (cell (with_cell s x c) i)) (sym e) ∙ ap is_future (cell_there s i c lt) ∙ h)
      (λ ne. ap is_future (cell_elsewhere s j i c ne) ∙ plain)
      (number_case i j)

  set_by : (j : ℕ) (c : CellShape) (o : Option ℕ) → is_future c ≡ false → Keeps (rows.field_set s j c o)
  set_by j c None h = tt
  set_by j c (Some n) h = (written_stays j c h, omega (arith, lt, length_written s j c))

  put_by : (l : Text) (j n : ℕ) (c : CellShape) → Keeps (rows.put_row s l j n c)
  put_by l j n (Object fs ms) = set_by j (Object (rows.with_field l n fs) ms) (rows.field_place l fs) refl
  put_by l j n (Number z) = tt
  put_by l j n (Reference m) = tt
  put_by l j n (Future f) = tt
  put_by l j n (Group ns) = tt

  invoked_by : (t : Tree) (o : Option Environment) → Keeps (rows.invoked s t o)
  invoked_by t None = tt
  invoked_by t (Some bs) = goes (term.put_in bs t) []

  method_by : (j : ℕ) (js : List ℕ) (o : Option MethodShape) → Keeps (rows.method_found s j js o)
  method_by j js None = tt
  method_by j js (Some m) = invoked_by m.body (rows.bindings (m.head.slf ∷ m.head.parameters) (j ∷ js))

  call_by : (l : Text) (j : ℕ) (js : List ℕ) (c : CellShape) → Keeps (rows.call_row s l j js c)
  call_by l j js (Object fs ms) = method_by j js (rows.method_at l ms)
  call_by l j js (Group ns) = goes (node term.Group (rows.broadcast l ns js)) []
  call_by l j js (Reference n) = tt
  call_by l j js (Number z) = tt
  call_by l j js (Future f) = tt

  active_by : (j : ℕ) (service : Option Text) (c : CellShape) → cell s j ≡ c → Keeps (rows.active_row j service c)
  active_by j service (Object fs ms) e = ap is_future e
  active_by j service (Number z) e = tt
  active_by j service (Reference n) e = tt
  active_by j service (Future f) e = tt
  active_by j service (Group ns) e = tt

  if_by : (t u : Tree) (c : CellShape) → Keeps (rows.if_row s t u c)
  if_by t u (Number (pos zero)) = goes u []
  if_by t u (Number (pos (suc n))) = goes t []
  if_by t u (Number (negsuc n)) = goes t []
  if_by t u c = tt

  print_by : (j : ℕ) (c : CellShape) → Keeps (rows.print_row s j c)
  print_by j (Number z) = goes (term.loc j) (rows.NumberLine z ∷ [])
  print_by j c = tt

  sizes_by : (o : Option Trees) → Keeps (rows.sizes_compared s o)
  sizes_by None = tt
  sizes_by (Some ts) = goes (node term.Group ts) []

  scatter_by : (l : Text) (c d : CellShape) → Keeps (rows.scatter_row s l c d)
  scatter_by l (Group ns) (Group js) = sizes_by (rows.scattered l ns js)
  scatter_by l c d = tt

  size_by : (c : CellShape) → Keeps (rows.size_row s c)
  size_by (Group ns) = allots (Number (pos (length ns))) []
  size_by c = tt

  found_by : (o : Option ℕ) → Keeps (rows.member_found s o)
  found_by None = tt
  found_by (Some n) = goes (term.loc n) []

  member_by : (c d : CellShape) → Keeps (rows.member_row s c d)
  member_by (Group ns) (Number (pos n)) = found_by (rows.member_at ns n)
  member_by (Group ns) (Number (negsuc n)) = tt
  member_by (Group ns) d = tt
  member_by c d = tt

  wait_by : (j : ℕ) (c : CellShape) → Keeps (rows.wait_row s j c)
  wait_by j (Group ns) = goes (term.loc j) []
  wait_by j c = tt

  row_keeps : (h : Head) (ns : List ℕ) (ts : Trees) → Keeps (row s h ns ts)
  row_keeps (term.Number z) [] none = allots (Number z) []
  row_keeps (Make ls ms) ns ts = allots (Object (rows.fields_at ls ns) (rows.methods_with ms ts)) []
  row_keeps (Echo w) [] none = allots (Object [] []) (rows.TextLine w ∷ [])
  row_keeps (Get l) (j ∷ []) none = get_by l (cell s j)
  row_keeps (Put l) (j ∷ n ∷ []) none = put_by l j n (cell s j)
  row_keeps (Call l) (j ∷ js) none = call_by l j js (cell s j)
  row_keeps Clone (j ∷ []) none = allots (cell s j) []
  row_keeps (Active l) (j ∷ []) none = active_by j l (cell s j) refl
  row_keeps (Serve ls) [] none = tt
  row_keeps (Pending ls) [] none = tt
  row_keeps (Let x) (j ∷ []) (more t none) = goes (term.put_in ((x, j) ∷ []) t) []
  row_keeps Steps (j ∷ []) ts = goes (rows.remaining ts) []
  row_keeps If (j ∷ []) (more t (more u none)) = if_by t u (cell s j)
  row_keeps Repeat [] (more t none) = goes (node Steps (more t (more (node Repeat (more t none)) none))) []
  row_keeps (Operate sign) (j ∷ n ∷ []) none = operate_by sign (cell s j) (cell s n)
  row_keeps Print (j ∷ []) none = print_by j (cell s j)
  row_keeps term.Group ns none = allots (Group ns) []
  row_keeps (Scatter l) (j ∷ n ∷ []) none = scatter_by l (cell s j) (cell s n)
  row_keeps Size (j ∷ []) none = size_by (cell s j)
  row_keeps Member (j ∷ n ∷ []) none = member_by (cell s j) (cell s n)
  row_keeps WaitAll (j ∷ []) none = wait_by j (cell s j)
  row_keeps h ns ts = tt

  needed : (o : Option ℕ) (c : Contraction) → Keeps c → Keeps (elim o [ Some n ↦ Needs n | None ↦ c ])
  needed None c h = h
  needed (Some n) c h = tt

  pub contract_keeps : (r : Redex) → Keeps (contract s r)
  contract_keeps r = needed _ _ (row_keeps r.head r.places r.behind)

-- Intents

abbrev pub ActivePlain : Activity → Type 0
ActivePlain a = is_future (cell a.store a.active) ≡ false

abbrev pub EffectPlain : Effect → Type 0
EffectPlain e = ActivePlain e.own × ((z : Name × Activity) → e.made ≡ Some z → ActivePlain z.1)

abbrev IntentPlain : Intent → Type 0
IntentPlain (Acts e) = EffectPlain e
IntentPlain (Rests status) = Unit {0}

-- the root of a copy
copied_root : (s : Store) (i : ℕ) → IsClosedStore s → i < length s → is_future (cell s i) ≡ false → is_future (cell (unpack [] (parcel_of s (i ∷ []))) 0) ≡ false
copied_root s i h lt plain =
    let order = visit_order s (i ∷ []) in
    let ix = number_in order in
    let F : ℕ → CellShape = λ p. moved_cell ix (cell s p) in
    let v = order_visited s h (i ∷ []) (lt, tt) in
    let at : cell (map F order) 0 ≡ F i = ap (cell (map F order)) (sym (first_number s i h lt)) ∙ cell_numbered F order i v.came.0 in
    ap is_future (cell_map (λ n. n + 0) (map F order) 0) ∙ moved_future (λ n. n + 0) (cell (map F order) 0) ∙ ap is_future at ∙ moved_future ix (cell s i) ∙ plain

module _ (requests : List RequestShape) (n : Name) (a : Activity) (h : IsClosedActivity a) (plain : ActivePlain a) where
  grown_plain : (s : Store) (c : CellShape) → a.active < length s → is_future (cell s a.active) ≡ false → is_future (cell (s ++ c ∷ []) a.active) ≡ false
  grown_plain s c lt e = ap is_future (cell_front s (c ∷ []) a.active lt) ∙ e

  serves_plain : (contexts : List Context) (o : Option Numbered) → IntentPlain (serves a contexts o)
  serves_plain contexts None = tt
  serves_plain contexts (Some x) = (ap is_future (cell_front a.store (map (moved_cell (λ n. n + length a.store)) x.1.arguments.cells) a.active h.active) ∙ plain, λ z d. no_some d)

  ends_plain : (place : ℕ) (o : Option ServiceShape) → IntentPlain (ends_service a place o)
  ends_plain place None = tt
  ends_plain place (Some v) = (plain, λ z d. no_some d)

  contracts_plain : (contexts : List Context) (s : Store) → IsClosedStore s → (lt : a.active < length s) → (e : is_future (cell s a.active) ≡ false) → (c : Contraction) → Keeps s a.active lt e c → Closes s c → IntentPlain (contracts requests n a contexts s c)
  contracts_plain contexts s k lt e (Becomes t u lines) x y = (x.0, λ z d. no_some d)
  contracts_plain contexts s k lt e (Faults f) x y = tt
  contracts_plain contexts s k lt e (Needs place) x y = tt
  contracts_plain contexts s k lt e (Communicates (Creates object service)) x y = (grown_plain s _ lt e, λ z d. subst (λ w. ActivePlain w.1) (some_is d) (copied_root s object k y x))
  contracts_plain contexts s k lt e (Communicates (Sends to label arguments)) x y = (grown_plain s _ lt e, λ z d. no_some d)
  contracts_plain contexts s k lt e (Communicates (Serves labels)) x y = serves_plain contexts (oldest_match (labels_served labels (cell s a.active)) a.served 0 requests)
  contracts_plain contexts s k lt e (Communicates (Polls labels)) x y = (grown_plain s _ lt e, λ z d. no_some d)
  contracts_plain contexts s k lt e Breaks x y = tt

  ready_plain : (contexts : List Context) (redex : Redex) → AreBelow (length a.store) (places_of redex) → (r : Ready) → ReadStays a.store r → IsReadFrom (length a.store) r → IntentPlain (elim r [ Lacks f ↦ Rests (Awaits f) | Reads s ↦ contracts requests n a contexts s (contract s redex) ])
  ready_plain contexts redex below (Lacks f) x y = tt
  ready_plain contexts redex below (Reads s) x y =
      let lt : a.active < length s = omega (arith, h.active, x.1) in
      let e = ap is_future (x.0 a.active h.active plain) ∙ plain in
      contracts_plain contexts s y.0 lt e (contract s redex) (contract_keeps s a.active lt e redex) (contract_closes s y.0 redex (below_more (length a.store) (length s) y.1 (places_of redex) below))

  module _ (k : FutureShape → Chase) (read : ReadsClosed k) where
    split_plain : (t : Split) → SplitBelow (length a.store) t → IntentPlain (elim t [
      | Stands place ↦ ends_service a place (newest a.services)
      | Splits contexts redex ↦ elim (redex_ready k a.store redex) [ Lacks f ↦ Rests (Awaits f) | Reads s ↦ contracts requests n a contexts s (contract s redex) ]
    ])
    split_plain (Stands place) below = ends_plain place (newest a.services)
    split_plain (Splits contexts redex) below =
        let places = front (length a.store) redex.places (locations_below redex.behind) (back (length a.store) (own_locations redex.head) (redex.places ++ locations_below redex.behind) below.1) in
        ready_plain contexts redex below.1 (redex_ready k a.store redex) (redex_stays k a.store redex) (redex_closed k read a.store redex places h.store)

    intent_plain : IntentPlain (intent k requests n a)
    intent_plain = split_plain (split a.term) (split_is_below (length a.store) a.term h.term)

    pub acts_plain : (e : Effect) → intent k requests n a ≡ Acts e → EffectPlain e
    acts_plain e is = subst IntentPlain is intent_plain
