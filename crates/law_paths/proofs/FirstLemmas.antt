-- A delivery changes nothing that is read.
use Rattle.std.specs.Prelude.{◌≡◌, ◌≢◌, ℕ, suc, ◌-◌, ◌<◌, ◌≤◌, true, false, T, List, [], ◌∷◌, ◌++◌, Some, length, map}
use Rattle.std.proofs.Common.{refl, sym, ap, subst, ◌∙◌, arith, ⊎_elim}
use Rattle.std.specs.FinMap.{find, put, is_sorted}
use Rattle.asp_model.specs.Names.{Name, FutureShape, name_cmp, future_cmp}
use Rattle.asp_model.specs.Store.{CellShape, Number, Object, Reference, Future, Group, Store, cell, with_cell, moved_cell}
use Rattle.asp_model.specs.Parcel.{ParcelShape, place_at, unpack_at}
use Rattle.asp_model.specs.Contraction.{is_future}
use Rattle.asp_model.specs.Chase.{Values, lead_by, lead_of, lead, chase}
use Rattle.asp_model.specs.Configuration.{Activity, Configuration}
use Rattle.law_steps.specs.Linked.{Each}
use Rattle.law_steps.specs.Closed.{AreBelow, IsClosedStore, IsClosedActivity}
use Rattle.law_steps.proofs.NameLemmas.{name_total, name_same, name_case}
use Rattle.law_chases.proofs.FutureLemmas.{none_true, futures_tied}
use Rattle.law_chases.proofs.MapLemmas as Maps
use Rattle.law_steps.proofs.MovedLemmas.{length_written, unpacked_at_closed}
use Rattle.law_steps.proofs.ClosedLemmas.{first_root}
use Rattle.def_paths.specs.Places.{Place, In_store, Side, side_of, value_by, name_by}
use Rattle.def_paths.specs.Agree.{Pairs, no_pair, pair, MayBoth, both, roots_of, ActivitiesAgree, Agrees}
use Rattle.def_journals.specs.Deliveries.{is_held, holders_from, unpack_each, with_store}
use Rattle.law_steps.proofs.DeliveryLemmas.{EdgeDone, edge_done, NeedDone, need_done}
use Rattle.law_paths.specs.Links.{IsClosedSide, Link}
use Rattle.law_paths.proofs.FitLemmas.{IsFit, FirstFit}
use Rattle.law_paths.proofs.CellLemmas.{cell_front, cell_elsewhere}
use Rattle.law_paths.proofs.PairLemmas.{Then}
use Rattle.law_paths.proofs.LinkLemmas.{Itself, link_itself, Back, link_back, link_then}
use Rattle.law_paths.proofs.PathLemmas.{link_reads}
use Rattle.law_paths.proofs.GrownLemmas.{over}
use Rattle.law_paths.proofs.DeliveredLemmas as Delivering
use Rattle.law_paths.proofs.ReadyLemmas.{StaysPlain}
use Rattle.law_paths.proofs.ActiveLemmas.{unpacked_stays}
use Rattle.law_chases.proofs.MeetLemmas.{chase_goes}
use Rattle.law_paths.proofs.StatusLemmas.{ValuesClosed, side_closed, chase_plain}
use Rattle.law_paths.proofs.ActivityLemmas.{roots_below}
use Rattle.law_paths.proofs.EquivalenceLemmas.{agrees_itself}
use Rattle.law_steps.proofs.ClosedLaws.{in_store}

-- a store that shows what another shows, where the cells stood
pub record Unchanged (vs : Values) (s t : Store) : Type 1 where
  pub rel : Place → Place → Type 0
  pub link : Link (side_of vs t) (side_of vs s) rel
  pub same : (j : ℕ) → j < length s → rel (In_store j) (In_store j)
  pub closed : IsClosedStore t
  pub longer : length s ≤ length t
  -- a cell that is no future stays
  pub stays : StaysPlain s t

abbrev Apart : List ℕ → Type 0
Apart [] = Unit {0}
Apart (n ∷ ns) = Each (λ m. n < m) ns × Apart ns

module _ (vs : Values) (sorted : T (is_sorted future_cmp vs)) (values : ValuesClosed vs) where
  unchanged : (s : Store) → IsClosedStore s → Unchanged vs s s
  unchanged s h = record { rel = Itself (side_of vs s); link = link_itself (side_of vs s) (side_closed vs values s h); same = λ j lt. (lt, refl); closed = h; longer = omega arith; stays = λ j lt e. refl }

  then_unchanged : (s t u : Store) → Unchanged vs s t → Unchanged vs t u → Unchanged vs s u
  then_unchanged s t u x y = record {
    rel = Then y.rel x.rel;
    link = link_then (side_of vs u) (side_of vs t) (side_of vs s) y.rel x.rel y.link x.link;
    same = λ j lt. (In_store j, y.same j (omega (arith, lt, x.longer)), x.same j lt);
    closed = y.closed;
    longer = omega (arith, x.longer, y.longer);
    stays = λ j lt e. y.stays j (omega (arith, lt, x.longer)) (ap is_future (x.stays j lt e) ∙ e) ∙ x.stays j lt e;
  }

  module _ (s : Store) (h : IsClosedStore s) (n : ℕ) (lt : n < length s) (f : FutureShape) (at : cell s n ≡ Future f) where
    abbrev a : Side
    a = side_of vs s

    ha : IsClosedSide a
    ha = side_closed vs values s h

    -- the value that is read
    read_unpacked : (c : CellShape) (cs : List CellShape) (roots : List ℕ) → value_by (chase vs f) ≡ Some (record { cells = c ∷ cs; roots = roots }) → Unchanged vs s (unpack_at s n (record { cells = c ∷ cs; roots = roots }))
    read_unpacked c cs roots value = record {
      rel = Delivering.Delivers a ha n f c cs roots lt at value;
      link = Delivering.delivered_link a ha n f c cs roots lt at value;
      same = Delivering.delivers a ha n f c cs roots lt at value;
      closed = (Delivering.delivered_closed a ha n f c cs roots lt at value).store;
      longer = let e = Delivering.size a ha n f c cs roots lt at value in omega (arith, e);
      stays = (unpacked_stays s n (record { cells = c ∷ cs; roots = roots }) (ap is_future at)).0;
    }

    -- the own value, whose root may be a future
    own_unpacked : (c : CellShape) (cs : List CellShape) (roots : List ℕ) → IsClosedStore (c ∷ cs) → lead vs f ≡ lead_by (record { cells = c ∷ cs; roots = roots }) c → (d : CellShape) → c ≡ d → Unchanged vs s (unpack_at s n (record { cells = c ∷ cs; roots = roots }))
    own_unpacked c cs roots k leads (Future g) e =
        let same : chase vs f ≡ chase vs g = chase_goes vs sorted f g (leads ∙ ap (lead_by (record { cells = c ∷ cs; roots = roots })) e) in
        let ws : List CellShape = map (moved_cell (place_at (length s) n)) cs in
        let x = unpacked_at_closed s n (c ∷ cs) roots lt h k in
        let stored : unpack_at s n (record { cells = c ∷ cs; roots = roots }) ≡ with_cell s n (Future g) ++ ws = ap (λ z. with_cell s n (moved_cell (place_at (length s) n) z) ++ ws) e in
        subst (Unchanged vs s) (sym stored) (record {
          rel = Back (Delivering.Passes a ha n f g ws lt at (ap value_by same) (ap name_by same));
          link = link_back a (over a (with_cell s n (Future g) ++ ws)) (Delivering.Passes a ha n f g ws lt at (ap value_by same) (ap name_by same)) (Delivering.passed_link a ha n f g ws lt at (ap value_by same) (ap name_by same));
          same = λ j l. (l, l, refl);
          closed = subst IsClosedStore stored x.0;
          longer = subst (λ t. length s ≤ length t) stored x.1;
          stays = subst (StaysPlain s) stored (unpacked_stays s n (record { cells = c ∷ cs; roots = roots }) (ap is_future at)).0;
        })
    own_unpacked c cs roots k leads (Number z) e = read_unpacked c cs roots (ap value_by (chase_plain vs f (record { cells = c ∷ cs; roots = roots }) leads (ap is_future e)))
    own_unpacked c cs roots k leads (Object fs ms) e = read_unpacked c cs roots (ap value_by (chase_plain vs f (record { cells = c ∷ cs; roots = roots }) leads (ap is_future e)))
    own_unpacked c cs roots k leads (Reference m) e = read_unpacked c cs roots (ap value_by (chase_plain vs f (record { cells = c ∷ cs; roots = roots }) leads (ap is_future e)))
    own_unpacked c cs roots k leads (Group ns) e = read_unpacked c cs roots (ap value_by (chase_plain vs f (record { cells = c ∷ cs; roots = roots }) leads (ap is_future e)))

    by_cells : (cells : List CellShape) (roots : List ℕ) → 0 < length cells → IsClosedStore cells → lead vs f ≡ lead_by (record { cells = cells; roots = roots }) (cell cells 0) → Unchanged vs s (unpack_at s n (record { cells = cells; roots = roots }))
    by_cells [] roots some k leads = absurd (omega (arith, some))
    by_cells (c ∷ cs) roots some k leads = own_unpacked c cs roots k leads c refl

    pub own_value_unpacked : (p : ParcelShape) → find future_cmp f vs ≡ Some p → Unchanged vs s (unpack_at s n p)
    own_value_unpacked p e = by_cells p.cells p.roots (first_root p (values f p e)) (values f p e).closed.cells (ap lead_of e)

    chased_cells : (cells : List CellShape) (roots : List ℕ) → 0 < length cells → value_by (chase vs f) ≡ Some (record { cells = cells; roots = roots }) → Unchanged vs s (unpack_at s n (record { cells = cells; roots = roots }))
    chased_cells [] roots some e = absurd (omega (arith, some))
    chased_cells (c ∷ cs) roots some e = read_unpacked c cs roots e

    pub chased_value_unpacked : (p : ParcelShape) → value_by (chase vs f) ≡ Some p → Unchanged vs s (unpack_at s n p)
    chased_value_unpacked p e = chased_cells p.cells p.roots (ha.roots f p e) e

  -- Each place that holds a future

  abbrev Holds : FutureShape → Store → ℕ → Type 0
  Holds f s n = (n < length s) × (cell s n ≡ Future f)

  other_stays : (s : Store) (n m : ℕ) (p : ParcelShape) → m < length s → m ≢ n → cell (unpack_at s n p) m ≡ cell s m
  other_stays s n m p lt ne = by p.cells
    where
      by : (cells : List CellShape) → cell (unpack_at s n (record { cells = cells; roots = p.roots })) m ≡ cell s m
      by [] = refl
      by (c ∷ cs) = cell_front (with_cell s n (moved_cell (place_at (length s) n) c)) _ m (omega (arith, lt, length_written s n (moved_cell (place_at (length s) n) c))) ∙ cell_elsewhere s n m (moved_cell (place_at (length s) n) c) ne

  still_hold : (s : Store) (n : ℕ) (f : FutureShape) (p : ParcelShape) → length s ≤ length (unpack_at s n p) → (ns : List ℕ) → Each (λ m. n < m) ns → Each (Holds f s) ns → Each (Holds f (unpack_at s n p)) ns
  still_hold s n f p le [] b h = tt
  still_hold s n f p le (m ∷ ns) b h = ((omega (arith, h.0.0, le), other_stays s n m p h.0.0 (λ e. omega (arith, b.0, e)) ∙ h.0.1), still_hold s n f p le ns b.1 h.1)

  pub each_unpacked : (ns : List ℕ) (s : Store) → IsClosedStore s → (f : FutureShape) (p : ParcelShape) → find future_cmp f vs ≡ Some p → Apart ns → Each (Holds f s) ns → Unchanged vs s (unpack_each s ns p)
  each_unpacked [] s h f p e b hold = unchanged s h
  each_unpacked (n ∷ ns) s h f p e b hold =
      let x = own_value_unpacked s h n hold.0.0 f hold.0.1 p e in
      then_unchanged s (unpack_at s n p) (unpack_each (unpack_at s n p) ns p) x (each_unpacked ns (unpack_at s n p) x.closed f p e b.1 (still_hold s n f p x.longer ns b.0 hold.1))

-- The holders of a future

held_is : (f : FutureShape) (c : CellShape) → is_held f c ≡ true → c ≡ Future f
held_is f (Future g) e = ap Future (sym (futures_tied f g e))
held_is f (Number z) e = none_true e
held_is f (Object fs ms) e = none_true e
held_is f (Reference n) e = none_true e
held_is f (Group ns) e = none_true e

-- from a number on
abbrev HoldsFrom : ℕ → FutureShape → Store → ℕ → Type 0
HoldsFrom k f s n = (k ≤ n) × (n - k < length s) × (cell s (n - k) ≡ Future f)

each_weaker_from : (k : ℕ) (f : FutureShape) (c : CellShape) (cs : Store) (ns : List ℕ) → Each (HoldsFrom (suc k) f cs) ns → Each (HoldsFrom k f (c ∷ cs)) ns
each_weaker_from k f c cs [] h = tt
each_weaker_from k f c cs (n ∷ ns) h =
    let e : n - k ≡ suc (n - suc k) = omega (arith, h.0.0) in
    ((omega (arith, h.0.0), omega (arith, e, h.0.1), ap (cell (c ∷ cs)) e ∙ h.0.2), each_weaker_from k f c cs ns h.1)

later : (k : ℕ) (f : FutureShape) (cs : Store) (ns : List ℕ) → Each (HoldsFrom (suc k) f cs) ns → Each (λ m. k < m) ns
later k f cs [] h = tt
later k f cs (n ∷ ns) h = (omega (arith, h.0.0), later k f cs ns h.1)

holders_hold : (k : ℕ) (f : FutureShape) (s : Store) → Each (HoldsFrom k f s) (holders_from k f s) × Apart (holders_from k f s)
holders_hold k f [] = (tt, tt)
holders_hold k f (c ∷ cs) =
    let rest = holders_hold (suc k) f cs in
    elim (is_held f c) as (λ b. is_held f c ≡ b → (let ns : List ℕ = elim b [ true ↦ k ∷ holders_from (suc k) f cs | false ↦ holders_from (suc k) f cs ] in Each (HoldsFrom k f (c ∷ cs)) ns × Apart ns)) [
      | true ↦ λ e. let z : k - k ≡ 0 = omega arith in (((omega arith, omega (arith, z), ap (cell (c ∷ cs)) z ∙ held_is f c e), each_weaker_from k f c cs (holders_from (suc k) f cs) rest.0), (later k f cs (holders_from (suc k) f cs) rest.0, rest.1))
      | false ↦ λ e. (each_weaker_from k f c cs (holders_from (suc k) f cs) rest.0, rest.1)
    ] refl

hold_from_zero : (f : FutureShape) (s : Store) (ns : List ℕ) → Each (HoldsFrom 0 f s) ns → Each (λ n. (n < length s) × (cell s n ≡ Future f)) ns
hold_from_zero f s [] h = tt
hold_from_zero f s (n ∷ ns) h = let e : n - 0 ≡ n = omega arith in ((omega (arith, e, h.0.1), ap (cell s) (sym e) ∙ h.0.2), hold_from_zero f s ns h.1)

-- Activities and configurations

roots_same : (R : Place → Place → Type 0) (n : ℕ) → ((j : ℕ) → j < n → R (In_store j) (In_store j)) → (xs : List ℕ) → AreBelow n xs → Pairs R (map In_store xs) (map In_store xs)
roots_same R n to [] h = no_pair
roots_same R n to (x ∷ xs) h = pair (to x h.0) (roots_same R n to xs h.1)

-- an activity over a store that shows the same
stored_agrees : (vs : Values) (a : Activity) (t : Store) → IsClosedActivity a → Unchanged vs a.store t → ActivitiesAgree (chase vs) (chase vs) (record a { store = t }) a
stored_agrees vs a t h x = record {
  term = refl;
  services = refl;
  reading = link_reads (side_of vs t) (side_of vs a.store) x.rel x.link (roots_of a) (roots_of a) (roots_same x.rel (length a.store) x.same (roots_of a) (roots_below a h));
  present = refl;
  sends = refl;
  creations = refl;
  reductions = refl;
  lines = refl;
  served = refl;
}

with_store_agrees : (c : Configuration) (n : Name) (a : Activity) (t : Store) → find name_cmp n c.activities ≡ Some a → IsClosedActivity a → Unchanged c.futures a.store t → Agrees (with_store c n a t) c
with_store_agrees c n a t at h x =
    let g = agrees_itself c in
    let k = chase c.futures in
    record {
      activities = λ m. ⊎_elim
          (λ same. subst (λ z. MayBoth (ActivitiesAgree k k) (find name_cmp z (put name_cmp n (record a { store = t }) c.activities)) (find name_cmp z c.activities)) (sym same)
          (subst (λ o. MayBoth (ActivitiesAgree k k) o (find name_cmp n c.activities)) (sym (Maps.find_same name_cmp name_total name_same n (record a { store = t }) c.activities)) (subst (MayBoth (ActivitiesAgree k k) (Some (record a { store = t }))) (sym at) (both (stored_agrees c.futures a t h x)))))
          (λ apart. subst (λ o. MayBoth (ActivitiesAgree k k) o (find name_cmp m c.activities)) (sym (Maps.find_other name_cmp name_total name_same m n (record a { store = t }) c.activities apart)) (g.activities m))
          (name_case m n);
      requests = g.requests;
      logs = g.logs;
      values = g.values;
    }

-- what a delivery leaves of a store
pub edge_unchanged : (c d : Configuration) (f : FutureShape) (to : Name) → IsFit c → (e : EdgeDone c f to d) → Unchanged c.futures e.receiver.store (unpack_each e.receiver.store (holders_from 0 f e.receiver.store) e.value)
edge_unchanged c d f to fit e =
    let a = e.receiver in
    let hs = holders_hold 0 f a.store in
    each_unpacked c.futures fit.ordered.futures fit.closed.values (holders_from 0 f a.store) a.store (fit.closed.activities to a e.at).store f e.value e.filled hs.1 (hold_from_zero f a.store (holders_from 0 f a.store) hs.0)

pub need_unchanged : (c d : Configuration) (f : FutureShape) (to : Name) (place : ℕ) → IsFit c → (e : NeedDone c f to place d) → Unchanged c.futures e.receiver.store (unpack_at e.receiver.store place e.value)
need_unchanged c d f to place fit e =
    let a = e.receiver in
    chased_value_unpacked c.futures fit.ordered.futures fit.closed.values a.store (fit.closed.activities to a e.at).store place (in_store a.store place e.held e.holds) e.held e.holds e.value (ap value_by e.chased)

pub first_law : FirstFit
first_law c d f to fit = (
  λ h. let e = edge_done c f to d h in subst (λ z. Agrees z c) (sym e.result) (with_store_agrees c to e.receiver _ e.at (fit.closed.activities to e.receiver e.at) (edge_unchanged c d f to fit e)),
  λ place h. let e = need_done c f to place d h in subst (λ z. Agrees z c) (sym e.result) (with_store_agrees c to e.receiver _ e.at (fit.closed.activities to e.receiver e.at) (need_unchanged c d f to place fit e)),
)
