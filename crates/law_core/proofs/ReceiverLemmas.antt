-- A delivery along an edge makes no need.
use Rattle.std.proofs.Common.{◌≡◌, ◌≢◌, ◌⊎◌, ◌<◌, ◌++◌, ◌∷◌, [], inl, inr, ℕ, Bool, true, false, List, Option, Some, None, length, refl, sym, ap, subst, ◌∙◌}
use Rattle.std.proofs.lemmas.List.{append-nil}
use Rattle.std.specs.FinMap.{find}
use Rattle.asp_model.specs.Names.{Name, FutureShape, name_cmp}
use Rattle.asp_model.specs.Term.{Head, WaitAll, locations_below, own_locations}
use Rattle.asp_model.specs.Parcel.{ParcelShape, unpack_at}
use Rattle.asp_model.specs.Split.{Redex, Split, Splits, Stands, split}
use Rattle.asp_model.specs.Store as stores
use Rattle.asp_model.specs.Store.{CellShape, Store, cell}
use Rattle.asp_model.specs.Contraction.{first_future, is_future, members_of, strict_members, strict_operands}
use Rattle.asp_model.specs.Chase.{Chase, Cycle, Unfilled, Value, Values, chase}
use Rattle.asp_model.specs.Configuration.{Activity, Configuration, requests_of}
use Rattle.asp_model.specs.Intent as intents
use Rattle.asp_model.specs.Intent.{Acts, Awaits, Done, Faulted, Intent, Running, Serving, StatusShape}
use Rattle.asp_model.specs.Step.{intent_in}
use Rattle.asp_model.specs.Status.{status_of, status_of_intent}
use Rattle.def_journals.specs.Deliveries.{holders_from, unpack_each, with_store}
use Rattle.def_journals.specs.Owed.{need_at, need_in, need_of, needed_at}
use Rattle.law_steps.specs.Closed.{AreBelow, IsClosedStore, SplitBelow}
use Rattle.law_steps.specs.Reached.{Edges, IsAt, Needs}
use Rattle.law_steps.proofs.ClosedLaws.{in_store, splits_are_below}
use Rattle.law_steps.proofs.ClosedLemmas.{operands_below, waited_below}
use Rattle.law_steps.proofs.CommuteLemmas.{intended_is}
use Rattle.law_steps.proofs.DeliveryLemmas.{edge_done, need_done}
use Rattle.law_steps.proofs.EachLemmas.{each_first, each_second}
use Rattle.law_chases.proofs.MapLemmas as Maps
use Rattle.law_steps.proofs.NameLemmas.{name_same, name_total}
use Rattle.law_chases.proofs.FutureLemmas.{no_some, none_true, some_is}
use Rattle.law_steps.proofs.WakeLemmas.{none_rests_running}
use Rattle.def_paths.specs.Agree.{Agrees}
use Rattle.def_paths.specs.Places.{In_store, entered_by, name_by, read_by, told, value_by}
use Rattle.law_paths.specs.Whole.{IsWhole}
use Rattle.law_paths.proofs.FirstLemmas.{Unchanged, edge_unchanged, need_unchanged}
use Rattle.law_paths.proofs.FitLemmas.{whole_fit}
use Rattle.law_paths.proofs.FollowLemmas.{deliveries_agree, statuses_agree}
use Rattle.law_paths.proofs.StatusLemmas.{ValuesClosed, side_closed}
use Rattle.law_paths.proofs.WholeLemmas.{moves_keep_whole}
use Rattle.core_ranks.specs.Ranks.{Goes, HasNeed, RankShape, Rests}
use Rattle.law_core.specs.Ranked.{rank_by, rank_in, rank_of, rank_resting, rank_unless}
use Rattle.law_core.specs.Receivers.{DeliveriesKeepRank, NeedsKeepRank}

-- A future that stays one

-- what shows as a future is one
shows_future : (names : FutureShape → FutureShape) (c : CellShape) (h : FutureShape) → is_future c ≡ false → told names c ≡ stores.Future h → ⊥
shows_future names (stores.Future x) h plain e = none_true (sym plain)
shows_future names (stores.Number z) h plain e = none_true (ap is_future e)
shows_future names (stores.Object fields methods) h plain e = none_true (ap is_future e)
shows_future names (stores.Reference m) h plain e = none_true (ap is_future e)
shows_future names (stores.Group ns) h plain e = none_true (ap is_future e)

future_of : (c : CellShape) → is_future c ≡ true → (g : FutureShape) × (c ≡ stores.Future g)
future_of (stores.Future g) e = (g, refl)
future_of (stores.Number z) e = none_true e
future_of (stores.Object fields methods) e = none_true e
future_of (stores.Reference m) e = none_true e
future_of (stores.Group ns) e = none_true e

no_need : (d : Chase) (p : ℕ) → value_by d ≡ None → needed_at d p ≡ None
no_need (Value f v) p e = no_some (sym e)
no_need (Unfilled f) p e = refl
no_need (Cycle f) p e = refl

no_value : (d : Chase) (p : ℕ) → needed_at d p ≡ None → value_by d ≡ None
no_value (Value f v) p e = no_some (sym e)
no_value (Unfilled f) p e = refl
no_value (Cycle f) p e = refl

abbrev or_later : Bool → ℕ → Option ℕ → Option ℕ
or_later b n o = elim b [ true ↦ Some n | false ↦ o ]

first_is_none : (b : Bool) (n : ℕ) (o : Option ℕ) → or_later b n o ≡ None → (b ≡ false) × (o ≡ None)
first_is_none true n o h = no_some (sym h)
first_is_none false n o h = (refl, h)

first_is : (b : Bool) (n p : ℕ) (o : Option ℕ) → or_later b n o ≡ Some p → ((b ≡ true) × (n ≡ p)) ⊎ ((b ≡ false) × (o ≡ Some p))
first_is true n p o h = inl (refl, some_is h)
first_is false n p o h = inr (refl, h)

-- the first of two lists
in_front : (s : Store) (ns ms : List ℕ) (p : ℕ) → first_future s ns ≡ Some p → first_future s (ns ++ ms) ≡ Some p
in_front s [] ms p h = no_some h
in_front s (n ∷ ns) ms p h = elim (first_is (is_future (cell s n)) n p (first_future s ns) h) [
  | inl y ↦ ap (λ b. or_later b n (first_future s (ns ++ ms))) y.0 ∙ ap Some y.1
  | inr y ↦ ap (λ b. or_later b n (first_future s (ns ++ ms))) y.0 ∙ in_front s ns ms p y.1
]

behind : (s : Store) (ns ms : List ℕ) → first_future s ns ≡ None → first_future s (ns ++ ms) ≡ first_future s ms
behind s [] ms h = refl
behind s (n ∷ ns) ms h =
    let y = first_is_none (is_future (cell s n)) n (first_future s ns) h in
    ap (λ b. or_later b n (first_future s (ns ++ ms))) y.0 ∙ behind s ns ms y.1

module _ (vs : Values) (closed : ValuesClosed vs) (s t : Store) (within : IsClosedStore s) (x : Unchanged vs s t) where
  abbrev names : FutureShape → FutureShape
  names f = name_by (chase vs f)

  abbrev shown : CellShape → CellShape
  shown c = told names (read_by c (entered_by (λ f. value_by (chase vs f)) c))

  -- a future without a value leads to none after
  still_lacks : (j : ℕ) (g : FutureShape) → cell s j ≡ stores.Future g → value_by (chase vs g) ≡ None → (h : FutureShape) × (cell t j ≡ stores.Future h) × (value_by (chase vs h) ≡ None)
  still_lacks j g at none = by (cell t j) refl (x.link.same (In_store j) (In_store j) (x.same j (in_store s j g at)) ∙ ap shown at ∙ ap (λ o. told names (read_by (stores.Future g) o)) none)
    where
      by_value : (h : FutureShape) → cell t j ≡ stores.Future h → (o : Option ParcelShape) → value_by (chase vs h) ≡ o → told names (read_by (stores.Future h) o) ≡ stores.Future (names g) → (k : FutureShape) × (cell t j ≡ stores.Future k) × (value_by (chase vs k) ≡ None)
      by_value h is None v e = (h, is, v)
      by_value h is (Some u) v e = absurd (shows_future names (cell u.cells 0) (names g) ((side_closed vs closed t x.closed).plain h u v) e)

      by : (c : CellShape) → cell t j ≡ c → shown c ≡ stores.Future (names g) → (h : FutureShape) × (cell t j ≡ stores.Future h) × (value_by (chase vs h) ≡ None)
      by (stores.Future h) is e = by_value h is (value_by (chase vs h)) refl e
      by (stores.Number z) is e = none_true (ap is_future e)
      by (stores.Object fields methods) is e = none_true (ap is_future e)
      by (stores.Reference m) is e = none_true (ap is_future e)
      by (stores.Group ns) is e = none_true (ap is_future e)

  abbrev Needless : Store → List ℕ → Type 0
  Needless u ns = need_at (chase vs) u (first_future u ns) ≡ None

  -- a first future without a value stays first, and without one
  at_first : (n : ℕ) (ms : List ℕ) → is_future (cell s n) ≡ true → need_at (chase vs) s (Some n) ≡ None → Needless t (n ∷ ms)
  at_first n ms is none =
      let g = future_of (cell s n) is in
      let h = still_lacks n g.0 g.1 (no_value (chase vs g.0) n (sym (ap (need_in (chase vs) n) g.1) ∙ none)) in
      ap (λ b. need_at (chase vs) t (or_later b n (first_future t ms))) (ap is_future h.1)
      ∙ ap (need_in (chase vs) n) h.1
      ∙ no_need (chase vs h.0) n h.2

  found_first : (ns ms : List ℕ) (p : ℕ) → AreBelow (length s) ns → first_future s ns ≡ Some p → need_at (chase vs) s (Some p) ≡ None → Needless t (ns ++ ms)
  found_first [] ms p b h none = no_some h
  found_first (n ∷ ns) ms p b h none = elim (first_is (is_future (cell s n)) n p (first_future s ns) h) [
    | inl y ↦ at_first n (ns ++ ms) y.0 (ap (λ k. need_at (chase vs) s (Some k)) y.1 ∙ none)
    | inr y ↦ ap (λ b. need_at (chase vs) t (or_later b n (first_future t (ns ++ ms)))) (ap is_future (x.stays n b.0 y.0) ∙ y.0) ∙ found_first ns ms p b.1 y.1 none
  ]

  none_first : (ns ms : List ℕ) → AreBelow (length s) ns → first_future s ns ≡ None → first_future t (ns ++ ms) ≡ first_future t ms
  none_first [] ms b h = refl
  none_first (n ∷ ns) ms b h =
      let y = first_is_none (is_future (cell s n)) n (first_future s ns) h in
      ap (λ b. or_later b n (first_future t (ns ++ ms))) (ap is_future (x.stays n b.0 y.0) ∙ y.0) ∙ none_first ns ms b.1 y.1

  members_stay : (h : Head) (ns : List ℕ) → AreBelow (length s) ns → first_future s (strict_operands h ns) ≡ None → strict_members t h ns ≡ strict_members s h ns
  members_stay WaitAll [] b none = refl
  members_stay WaitAll (n ∷ ns) b none = ap members_of (x.stays n b.0 (first_is_none (is_future (cell s n)) n (first_future s ns) none).0)
  members_stay h ns b none = refl

  -- one list alone
  alone : (ns : List ℕ) → AreBelow (length s) ns → Needless s ns → Needless t ns
  alone ns b none = subst (Needless t) (append-nil ns) (by (first_future s ns) refl none)
    where
      by : (o : Option ℕ) → first_future s ns ≡ o → need_at (chase vs) s o ≡ None → Needless t (ns ++ [])
      by None is h = ap (need_at (chase vs) t) (none_first ns [] b is)
      by (Some p) is h = found_first ns [] p b is h

  needless_lists : (h : Head) (places : List ℕ) → AreBelow (length s) places → (ns ms : List ℕ) → ns ≡ strict_operands h places → ms ≡ strict_members s h places → Needless s (ns ++ ms) → (o : Option ℕ) → first_future s ns ≡ o → Needless t (ns ++ strict_members t h places)
  needless_lists h places b ns ms first second none (Some p) is =
      let low : AreBelow (length s) ns = subst (AreBelow (length s)) (sym first) (operands_below (length s) h places b) in
      found_first ns (strict_members t h places) p low is (ap (need_at (chase vs) s) (sym (in_front s ns ms p is)) ∙ none)
  needless_lists h places b ns ms first second none None is =
      let low : AreBelow (length s) ns = subst (AreBelow (length s)) (sym first) (operands_below (length s) h places b) in
      let stay : strict_members t h places ≡ ms = members_stay h places b (ap (first_future s) (sym first) ∙ is) ∙ sym second in
      let below : AreBelow (length s) ms = subst (AreBelow (length s)) (sym second) (waited_below s h places within) in
      ap (need_at (chase vs) t) (none_first ns (strict_members t h places) low is)
      ∙ ap (λ ks. need_at (chase vs) t (first_future t ks)) stay
      ∙ alone ms below (ap (need_at (chase vs) s) (sym (behind s ns ms is)) ∙ none)

  needless_redex : (r : Redex) → AreBelow (length s) r.places → Needless s (strict_operands r.head r.places ++ strict_members s r.head r.places) → Needless t (strict_operands r.head r.places ++ strict_members t r.head r.places)
  needless_redex r b none = needless_lists r.head r.places b (strict_operands r.head r.places) (strict_members s r.head r.places) refl refl none (first_future s (strict_operands r.head r.places)) refl

  abbrev need_by : Store → Split → Option (FutureShape × ℕ)
  need_by u q = elim q [ Stands place ↦ None | Splits contexts r ↦ need_at (chase vs) u (first_future u (strict_operands r.head r.places ++ strict_members u r.head r.places)) ]

  pub needless : (q : Split) → SplitBelow (length s) q → need_by s q ≡ None → need_by t q ≡ None
  needless (Stands place) b none = refl
  needless (Splits contexts r) b none =
      let below = each_first (λ i. i < length s) r.places (locations_below r.behind) (each_second (λ i. i < length s) (own_locations r.head) (r.places ++ locations_below r.behind) b.1) in
      needless_redex r below none

-- The rank, by the need and the status

abbrev rank_with : Values → StatusShape → RankShape
rank_with values Running = Goes
rank_with values status = rank_resting values status

by_status : (values : Values) (p : Intent) → p ≢ intents.Rests Running → rank_by values p ≡ rank_with values (status_of_intent p)
by_status values (Acts e) not = refl
by_status values (intents.Rests Running) not = absurd (not refl)
by_status values (intents.Rests Done) not = refl
by_status values (intents.Rests Serving) not = refl
by_status values (intents.Rests (Awaits f)) not = refl
by_status values (intents.Rests (Faulted x)) not = refl

ranked : (c : Configuration) (n : Name) (a : Activity) → IsAt c n a → rank_in c n ≡ rank_unless (need_of (chase c.futures) a) (rank_with c.futures (status_of c n))
ranked c n a at =
    ap (λ o. elim o [ None ↦ Rests | Some b ↦ rank_of c.futures (requests_of c n) n b ]) at
    ∙ ap (λ p. rank_unless (need_of (chase c.futures) a) (rank_by c.futures p)) (sym (intended_is c n a at))
    ∙ ap (rank_unless (need_of (chase c.futures) a)) (by_status c.futures (intent_in c n) (none_rests_running c n))

not_needy : (o : Option (FutureShape × ℕ)) (rank : RankShape) → rank_unless o rank ≢ HasNeed → o ≡ None
not_needy None rank h = refl
not_needy (Some x) rank h = absurd (h refl)

-- whatever store shows what the receiver's showed
module _ (c d : Configuration) (to : Name) (whole : IsWhole c) (then_whole : IsWhole d) (agrees : Agrees d c) (a : Activity) (at : IsAt c to a) (t : Store) (is : d ≡ with_store c to a t) (x : Unchanged c.futures a.store t) (not : rank_in c to ≢ HasNeed) where
  abbrev b : Activity
  b = record a { store = t }

  there : IsAt d to b
  there = ap (λ z. find name_cmp to z.activities) is ∙ Maps.find_same name_cmp name_total name_same to b c.activities

  before : need_of (chase c.futures) a ≡ None
  before = not_needy (need_of (chase c.futures) a) (rank_with c.futures (status_of c to)) (λ e. not (ranked c to a at ∙ e))

  after : need_of (chase c.futures) b ≡ None
  after =
      let closed = whole.closed.activities to a at in
      needless c.futures whole.closed.values a.store t closed.store x (split a.term) (splits_are_below a closed) before

  keeps_rank : rank_in d to ≡ rank_in c to
  keeps_rank =
      let futures : d.futures ≡ c.futures = ap (λ z. z.futures) is in
      let status : status_of d to ≡ status_of c to = statuses_agree d c then_whole whole agrees to in
      ranked d to b there
      ∙ (λ i. rank_unless (need_of (chase (futures i)) b) (rank_with (futures i) (status i)))
      ∙ ap (λ o. rank_unless o (rank_with c.futures (status_of c to))) (after ∙ sym before)
      ∙ sym (ranked c to a at)

pub deliveries_keep_rank : DeliveriesKeepRank
deliveries_keep_rank c d f to whole made not =
    let x = edge_done c f to d made in
    keeps_rank c d to whole (moves_keep_whole (Edges f to) c d whole made) ((deliveries_agree c d f to whole).0 made) x.receiver x.at
    (unpack_each x.receiver.store (holders_from 0 f x.receiver.store) x.value) x.result (edge_unchanged c d f to (whole_fit c whole) x) not

pub needs_keep_rank : NeedsKeepRank
needs_keep_rank c d f to place whole made not =
    let x = need_done c f to place d made in
    keeps_rank c d to whole (moves_keep_whole (Needs f to place) c d whole made) ((deliveries_agree c d f to whole).1 place made) x.receiver x.at
    (unpack_at x.receiver.store place x.value) x.result (need_unchanged c d f to place (whole_fit c whole) x) not
