-- What an activity needs, with the value to which it leads.
use Rattle.std.proofs.Common.{◌≡◌, ◌<◌, ◌++◌, ℕ, Bool, true, false, List, Option, Some, None, length, refl, ap, subst, ◌∙◌}
use Rattle.asp_model.specs.Names.{FutureShape}
use Rattle.asp_model.specs.Term.{locations_below, own_locations}
use Rattle.asp_model.specs.Split.{Context, Redex, Split, Stands, Splits, split}
use Rattle.asp_model.specs.Store as stores
use Rattle.asp_model.specs.Store.{CellShape, cell}
use Rattle.asp_model.specs.Parcel.{ParcelShape}
use Rattle.asp_model.specs.Contraction.{Needs, contract, first_future}
use Rattle.asp_model.specs.Chase.{Chase, Value, Unfilled, Cycle, Values, chase, lead_of}
use Rattle.asp_model.specs.Configuration.{Activity, Configuration}
use Rattle.def_journals.specs.Deliveries.{value_needed, value_of}
use Rattle.def_journals.specs.Owed.{need_at, need_in, need_of, needed_at}
use Rattle.law_chases.specs.Chases.{IsValueOf}
use Rattle.law_chases.proofs.FutureLemmas.{future_itself, no_some, some_is}
use Rattle.law_steps.specs.Closed.{AreBelow, IsClosed, IsClosedActivity, SplitBelow}
use Rattle.law_steps.proofs.ClosedLaws.{splits_are_below}
use Rattle.law_steps.proofs.EachLemmas.{each_first, each_second}
use Rattle.law_paths.proofs.StatusLemmas.{chase_plain}
use Rattle.law_core.proofs.OperandLemmas.{operands}
use Rattle.law_peeks.specs.Needs.{IsNeeded, Peek}
use Rattle.law_peeks.specs.Moves.{IsPeeked, PeeksAreNeeds}
use Rattle.law_peeks.proofs.RowLemmas.{first_needs, needs_first}

-- Values of futures

-- a future leads to its own value
pub own_value : (values : Values) (f : FutureShape) (p : ParcelShape) → IsValueOf values f p → chase values f ≡ Value f p
own_value values f p v = chase_plain values f p (ap lead_of v.0) v.1

-- a value has a root
pub some_root : (c : Configuration) (f : FutureShape) (p : ParcelShape) → IsClosed c → IsValueOf c.futures f p → 0 < length p.cells
some_root c f p closed v =
    let x = closed.values f p v.0 in
    (subst (AreBelow (length p.cells)) x.root x.closed.roots).0

-- The places of a redex are in the store

pub places_below : (a : Activity) (contexts : List Context) (r : Redex) → IsClosedActivity a → split a.term ≡ Splits contexts r → AreBelow (length a.store) r.places
places_below a contexts r closed splits =
    let below : SplitBelow (length a.store) (Splits contexts r) = subst (SplitBelow (length a.store)) splits (splits_are_below a closed) in
    each_first (λ i. i < length a.store) r.places (locations_below r.behind) (each_second (λ i. i < length a.store) (own_locations r.head) (r.places ++ locations_below r.behind) below.1)

-- Needs

abbrev need_by : (FutureShape → Chase) → Activity → Split → Option (FutureShape × ℕ)
need_by chases a t = elim t [ Stands place ↦ None | Splits contexts r ↦ need_at chases a.store (first_future a.store (operands a.store r)) ]

pub peeks_are_needs : PeeksAreNeeds
peeks_are_needs values a x h v =
    let chases : FutureShape → Chase = chase values in
    ap (need_by chases a) h.splits
    ∙ ap (need_at chases a.store) (needs_first a.store h.redex x.place h.needs)
    ∙ ap (need_in chases x.place) h.holds
    ∙ ap (λ d. needed_at d x.place) (own_value values x.future x.value v)

-- the value that a need at the place delivers
pub peek_value : (values : Values) (a : Activity) (x : Peek) → IsPeeked a x → IsValueOf values x.future x.value → value_needed (chase values) x.future (cell a.store x.place) ≡ Some x.value
peek_value values a x h v =
    ap (value_needed (chase values) x.future) h.holds
    ∙ ap (value_of x.future) (own_value values x.future x.value v)
    ∙ ap (λ (b : Bool). elim b [ true ↦ Some x.value | false ↦ None ]) (future_itself x.future)

pub peek_needed : (c : Configuration) (a : Activity) (x : Peek) (h : IsPeeked a x) → IsClosed c → IsValueOf c.futures x.future x.value → IsNeeded (chase c.futures) a.store h.redex x
peek_needed c a x h closed v = record {
  needs = h.needs;
  held = x.future;
  holds = h.holds;
  leads = own_value c.futures x.future x.value v;
  some = some_root c x.future x.value closed v;
  root = v.1;
}

-- The redex that needs

pub record Needing (a : Activity) (place : ℕ) : Type 0 where
  pub contexts : List Context
  pub redex : Redex
  pub splits : split a.term ≡ Splits contexts redex
  pub needs : contract a.store redex ≡ Needs place

module _ (chases : FutureShape → Chase) (a : Activity) (f : FutureShape) (place : ℕ) where
  same_place : (d : Chase) (q : ℕ) → needed_at d q ≡ Some (f, place) → q ≡ place
  same_place (Value g p) q e = ap (λ x. x.1) (some_is e)
  same_place (Unfilled g) q e = no_some e
  same_place (Cycle g) q e = no_some e

  at_cell : (c : CellShape) (q : ℕ) → need_in chases q c ≡ Some (f, place) → q ≡ place
  at_cell (stores.Future g) q e = same_place (chases g) q e
  at_cell (stores.Number z) q e = no_some e
  at_cell (stores.Object fields methods) q e = no_some e
  at_cell (stores.Reference m) q e = no_some e
  at_cell (stores.Group ns) q e = no_some e

  at_first : (o : Option ℕ) → need_at chases a.store o ≡ Some (f, place) → o ≡ Some place
  at_first None e = no_some e
  at_first (Some q) e = ap Some (at_cell (cell a.store q) q e)

  by_split : (t : Split) → split a.term ≡ t → need_by chases a t ≡ Some (f, place) → Needing a place
  by_split (Stands p) splits e = no_some e
  by_split (Splits contexts r) splits e = record { contexts = contexts; redex = r; splits = splits; needs = first_needs a.store r place (at_first (first_future a.store (operands a.store r)) e) }

  pub needing : need_of chases a ≡ Some (f, place) → Needing a place
  needing e = by_split (split a.term) refl e
