-- A parcel holds no future that its store does not hold, and a delivery along an edge leaves none of its future.
use Rattle.std.specs.Prelude.{◌≡◌, ◌≢◌, ℕ, zero, suc, ◌+◌, ◌<◌, true, false, List, [], ◌∷◌, ◌++◌, map, length}
use Rattle.std.specs.List.{flat_map}
use Rattle.std.proofs.Common.{refl, sym, ap, subst, ◌∙◌, arith, inl, inr, ⊎_elim}
use Rattle.std.proofs.lemmas.Bool.{false_from_ne_true}
use Rattle.std.specs.FinMap.{find}
use Rattle.asp_model.specs.Names.{FutureShape, name_cmp, same_future}
use Rattle.asp_model.specs.Store.{CellShape, Number, Object, Reference, Future, Group, Store, cell, with_cell, moved_cell}
use Rattle.asp_model.specs.Parcel.{ParcelShape, parcel_of, place_at, unpack_at}
use Rattle.def_journals.specs.Deliveries.{is_held, holders_from, unpack_each}
use Rattle.def_journals.specs.Passing.{future_in, futures_in}
use Rattle.law_steps.specs.Linked.{Each}
use Rattle.law_steps.proofs.NameLemmas.{name_total, name_same}
use Rattle.law_chases.proofs.FutureLemmas.{true_false, none_true, some_is, future_itself}
use Rattle.law_chases.proofs.MapLemmas as Maps
use Rattle.law_steps.proofs.EntryLemmas.{In}
use Rattle.law_steps.proofs.EachLemmas.{each_both}
use Rattle.law_steps.proofs.ContractionLemmas.{IsOfNames, all_moved, all_parcel}
use Rattle.law_steps.proofs.DeliveryLemmas.{edge_done}
use Rattle.law_journals.specs.EdgesKept.{HoldsNot, ParcelsHoldLess, DeliveriesUpdate}

module _ (f : FutureShape) where
  abbrev Not : CellShape → Type 0
  Not x = is_held f x ≡ false

  names_only : IsOfNames Not
  names_only = record { number = λ z. refl; object = λ fields methods. refl; group = λ ns. refl }

  -- futures that cells do not hold

  other_future : (x : CellShape) → Not x → Each (λ g. f ≢ g) (future_in x)
  other_future (Future g) h = ((λ e. true_false (same_future f f) (future_itself f) (ap (same_future f) e ∙ h)), tt)
  other_future (Number z) h = tt
  other_future (Object fields methods) h = tt
  other_future (Reference n) h = tt
  other_future (Group ns) h = tt

  pub other_futures : (cells : List CellShape) → HoldsNot f cells → Each (λ g. f ≢ g) (futures_in cells)
  other_futures [] h = tt
  other_futures (x ∷ cells) h = each_both (λ g. f ≢ g) (future_in x) (flat_map future_in cells) (other_future x h.0) (other_futures cells h.1)

  -- Cells that hold it after a value was unpacked

  held_before : (s es : Store) → HoldsNot f es → (j : ℕ) → is_held f (cell (s ++ es) j) ≡ true → is_held f (cell s j) ≡ true
  held_before [] [] h j e = none_true e
  held_before [] (x ∷ es) h zero e = absurd (true_false (is_held f x) e h.0)
  held_before [] (x ∷ es) h (suc j) e = held_before [] es h.1 j e
  held_before (c ∷ s) es h zero e = e
  held_before (c ∷ s) es h (suc j) e = held_before s es h j e

  held_elsewhere : (s : Store) (n : ℕ) (d : CellShape) (es : Store) → Not d → HoldsNot f es → (j : ℕ) → is_held f (cell (with_cell s n d ++ es) j) ≡ true → (j ≢ n) × (is_held f (cell s j) ≡ true)
  held_elsewhere [] n d es h k j e = none_true (held_before [] es k j e)
  held_elsewhere (c ∷ s) zero d es h k zero e = absurd (true_false (is_held f d) e h)
  held_elsewhere (c ∷ s) zero d es h k (suc j) e = ((λ p. omega (arith, p)), held_before s es k j e)
  held_elsewhere (c ∷ s) (suc n) d es h k zero e = ((λ p. omega (arith, p)), e)
  held_elsewhere (c ∷ s) (suc n) d es h k (suc j) e = let x = held_elsewhere s n d es h k j e in ((λ p. x.0 (omega (arith, p))), x.1)

  -- it is held at these places alone
  abbrev OnlyAt : List ℕ → Store → Type 0
  OnlyAt ns s = (j : ℕ) → is_held f (cell s j) ≡ true → In j ns

  one_less : (n : ℕ) (ns : List ℕ) (s : Store) (cells : List CellShape) (roots : List ℕ) → 0 < length cells → HoldsNot f cells → OnlyAt (n ∷ ns) s → OnlyAt ns (unpack_at s n (record { cells = cells; roots = roots }))
  one_less n ns s [] roots some h only = absurd (omega (arith, some))
  one_less n ns s (c ∷ cs) roots some h only = λ j e.
      let m = all_moved Not names_only (place_at (length s) n) (c ∷ cs) h in
      let x = held_elsewhere s n (moved_cell (place_at (length s) n) c) (map (moved_cell (place_at (length s) n)) cs) m.0 m.1 j e in
      ⊎_elim (λ p. absurd (x.0 p)) (λ i. i) (only j x.1)

  none_left : (ns : List ℕ) (s : Store) (p : ParcelShape) → 0 < length p.cells → HoldsNot f p.cells → OnlyAt ns s → OnlyAt [] (unpack_each s ns p)
  none_left [] s p some h only = only
  none_left (n ∷ ns) s p some h only = none_left ns (unpack_at s n p) p some h (one_less n ns s p.cells p.roots some h only)

  all_holders : (k : ℕ) (s : Store) (j : ℕ) → is_held f (cell s j) ≡ true → In (k + j) (holders_from k f s)
  all_holders k [] j e = none_true e
  all_holders k (c ∷ s) zero e = subst (λ b. In (k + 0) (elim b [ true ↦ k ∷ holders_from (suc k) f s | false ↦ holders_from (suc k) f s ])) (sym e) (inl (omega arith))
  all_holders k (c ∷ s) (suc j) e =
      let i : In (k + suc j) (holders_from (suc k) f s) = subst (λ m. In m (holders_from (suc k) f s)) (omega arith) (all_holders (suc k) s j e) in
      elim (is_held f c) as (λ b. In (k + suc j) (elim b [ true ↦ k ∷ holders_from (suc k) f s | false ↦ holders_from (suc k) f s ])) [ true ↦ inr i | false ↦ i ]

  nowhere_held : (s : Store) → OnlyAt [] s → HoldsNot f s
  nowhere_held [] only = tt
  nowhere_held (c ∷ s) only = (false_from_ne_true (is_held f c) (λ e. only 0 e), nowhere_held s (λ j e. only (suc j) e))

  pub holds_none : (s : Store) (p : ParcelShape) → 0 < length p.cells → HoldsNot f p.cells → HoldsNot f (unpack_each s (holders_from 0 f s) p)
  holds_none s p some h = nowhere_held (unpack_each s (holders_from 0 f s) p) (none_left (holders_from 0 f s) s p some h (λ j e. subst (λ m. In m (holders_from 0 f s)) (omega arith) (all_holders 0 s j e)))

pub parcels_hold_less : ParcelsHoldLess
parcels_hold_less f s roots h = other_futures f (parcel_of s roots).cells (all_parcel (Not f) (names_only f) s roots h)

pub deliveries_update : DeliveriesUpdate
deliveries_update c d f to p b value some h e at =
    let x = edge_done c f to d e in
    let same : x.value ≡ p = some_is (sym x.filled ∙ value) in
    let store : Store = unpack_each x.receiver.store (holders_from 0 f x.receiver.store) x.value in
    let is : b ≡ record x.receiver { store = store } = some_is (sym at ∙ ap (λ z. find name_cmp to z.activities) x.result ∙ Maps.find_same name_cmp name_total name_same to (record x.receiver { store = store }) c.activities) in
    subst (λ z. HoldsNot f z.store) (sym is) (subst (λ q. HoldsNot f (unpack_each x.receiver.store (holders_from 0 f x.receiver.store) q)) (sym same) (holds_none f x.receiver.store p some h))
