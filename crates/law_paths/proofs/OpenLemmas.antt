-- A future is filled on one side: what is read before and after, and which cells are open.
use Rattle.std.specs.Prelude.{◌≡◌, ℕ, zero, suc, false, List, [], ◌∷◌, Option, Some, None, map}
use Rattle.std.proofs.Common.{refl, sym, ap, ◌∙◌, inl, inr, ⊎_elim, ◌⊎◌}
use Rattle.asp_model.specs.Names.{FutureShape}
use Rattle.asp_model.specs.Store.{CellShape, Number, Object, Reference, Future, Group, Store, cell, reached}
use Rattle.asp_model.specs.Parcel.{ParcelShape}
use Rattle.asp_model.specs.Contraction.{is_future}
use Rattle.law_steps.specs.Linked.{Each}
use Rattle.law_chases.proofs.FutureLemmas.{no_some, none_true, true_false, future_case}
use Rattle.def_paths.specs.Places.{Place, In_store, In_value, Side, inner, beside, part, read_by, child_by, entered_by, told, written, entered, found, children}
use Rattle.def_paths.specs.Agree.{Pairs, no_pair, pair}
use Rattle.law_paths.specs.Links.{IsClosedSide, Good}
use Rattle.law_paths.proofs.GrownLemmas.{over}

abbrev pub base_of : Place → Place
base_of (In_store j) = In_store j
base_of (In_value q j) = q

abbrev pub index_of : Place → ℕ
index_of (In_store j) = j
index_of (In_value q j) = j

-- the pairs of a list, with what holds of each item
pub pairs_good : (a b : Side) (R S : Place → Place → Type 0) (k l : Place → Place) → ((p q : Place) → R p q → Good a p → Good b q → S (k p) (l q)) → (ps qs : List Place) → Pairs R ps qs → Each (Good a) ps → Each (Good b) qs → Pairs S (map k ps) (map l qs)
pairs_good a b R S k l to _ _ no_pair x y = no_pair
pairs_good a b R S k l to _ _ (pair r rs) x y = pair (to _ _ r x.0 y.0) (pairs_good a b R S k l to _ _ rs x.1 y.1)

-- a place of the value that is read at p
abbrev pub graft : Place → Place → Place
graft p (In_store c) = inner p c
graft p (In_value q j) = In_value (graft p q) j

abbrev pub IsDeep : Place → Type 0
IsDeep (In_store zero) = ⊥
IsDeep (In_store (suc c)) = Unit {0}
IsDeep (In_value q j) = Unit {0}

pub root_or_deep : (p : Place) → (p ≡ In_store 0) ⊎ IsDeep p
root_or_deep (In_store zero) = inl refl
root_or_deep (In_store (suc c)) = inr tt
root_or_deep (In_value q j) = inr tt

pub graft_map : (x : Place) (cs : List ℕ) → map (inner x) cs ≡ map (graft x) (map In_store cs)
graft_map x [] = refl
graft_map x (c ∷ cs) = ap (λ ps. inner x c ∷ ps) (graft_map x cs)

-- One side, before and after

-- a future that has no value, and awaits this name
abbrev pub AwaitsAt : Side → FutureShape → FutureShape → Type 0
AwaitsAt a f x = (a.values x ≡ None) × (a.awaited x ≡ f)

-- `now` reads futures as before, but for those that awaited f, which it reads as v
pub record Filling (a : Side) (v : ParcelShape) (now : FutureShape → Option ParcelShape) (f : FutureShape) : Type 0 where
  pub plain : entered_by a.values (cell v.cells 0) ≡ None
  pub keeps : (x : FutureShape) (u : ParcelShape) → a.values x ≡ Some u → now x ≡ Some u
  pub opens : (x : FutureShape) → AwaitsAt a f x → now x ≡ Some v
  pub others : (x : FutureShape) → (AwaitsAt a f x → ⊥) → now x ≡ a.values x

abbrev pub after : Side → (FutureShape → Option ParcelShape) → Side
after a now = record a { values = now }

abbrev pub inside : Side → ParcelShape → Side
inside a v = over a v.cells

pub data IsOpen (a : Side) (f : FutureShape) : CellShape → Type 0 where
  is_open : {x : FutureShape} → AwaitsAt a f x → IsOpen a f (Future x)

module _ (a : Side) (v : ParcelShape) (now : FutureShape → Option ParcelShape) (f : FutureShape) (fill : Filling a v now f) where
  pub open_now : (c : CellShape) → IsOpen a f c → entered_by now c ≡ Some v
  open_now _ (is_open {x = x} w) = fill.opens x w

  pub open_before : (c : CellShape) → IsOpen a f c → entered_by a.values c ≡ None
  open_before _ (is_open {x = x} w) = w.0

  pub not_open : (c : CellShape) → (IsOpen a f c → ⊥) → entered_by now c ≡ entered_by a.values c
  not_open (Future x) h = fill.others x (λ w. h (is_open w))
  not_open (Number z) h = refl
  not_open (Object fs ms) h = refl
  not_open (Reference n) h = refl
  not_open (Group ns) h = refl

  pub entered_keeps : (c : CellShape) (u : ParcelShape) → entered_by a.values c ≡ Some u → entered_by now c ≡ Some u
  entered_keeps (Future x) u e = fill.keeps x u e
  entered_keeps (Number z) u e = no_some e
  entered_keeps (Object fs ms) u e = no_some e
  entered_keeps (Reference n) u e = no_some e
  entered_keeps (Group ns) u e = no_some e

  -- what stood at a place stands there
  pub written_still : (p : Place) → Good a p → written (after a now) p ≡ written a p
  written_still (In_store j) g = refl
  written_still (In_value q j) g = ap (λ o. part o j) (ap (entered_by now) (written_still q g.0) ∙ entered_keeps (written a q) g.1.0 g.1.1 ∙ sym g.1.1)

  pub good_still : (p : Place) → Good a p → Good (after a now) p
  good_still (In_store j) g = g
  good_still (In_value q j) g = (good_still q g.0, (g.1.0, ap (entered_by now) (written_still q g.0) ∙ entered_keeps (written a q) g.1.0 g.1.1, g.1.2))

  pub deep_base : (q : Place) (u : ParcelShape) → entered (inside a v) q ≡ Some u → IsDeep q
  deep_base (In_store zero) u e = no_some (sym fill.plain ∙ e)
  deep_base (In_store (suc c)) u e = tt
  deep_base (In_value q j) u e = tt

  pub written_graft : (p : Place) → IsOpen a f (written (after a now) p) → (q : Place) → Good (inside a v) q → IsDeep q → written (after a now) (graft p q) ≡ written (inside a v) q
  written_graft p o (In_store zero) r d = absurd d
  written_graft p o (In_store (suc c)) r d = ap (λ x. part x (suc c)) (open_now (written (after a now) p) o)
  written_graft p o (In_value q j) r d = ap (λ x. part x j) (ap (entered_by now) (written_graft p o q r.0 (deep_base q r.1.0 r.1.1)) ∙ entered_keeps (written (inside a v) q) r.1.0 r.1.1 ∙ sym r.1.1)

  pub good_graft : (p : Place) → Good (after a now) p → IsOpen a f (written (after a now) p) → (q : Place) → Good (inside a v) q → Good (after a now) (graft p q)
  good_graft p g o (In_store zero) r = g
  good_graft p g o (In_store (suc c)) r = (g, (v, open_now (written (after a now) p) o, r))
  good_graft p g o (In_value q j) r = (good_graft p g o q r.0, (r.1.0, ap (entered_by now) (written_graft p o q r.0 (deep_base q r.1.0 r.1.1)) ∙ entered_keeps (written (inside a v) q) r.1.0 r.1.1, r.1.2))

  -- what is shown where nothing new is entered, from the store in which the cell stood
  pub shows : (t : Store) (k : Place → Place) (x p : Place) → written (after a now) x ≡ written (over a t) p → (IsOpen a f (written (over a t) p) → ⊥)
      → ((c : ℕ) → inner x c ≡ k (inner p c)) → ((c : ℕ) → beside x c ≡ k (beside p c)) → (found (after a now) x ≡ found (over a t) p) × (children (after a now) x ≡ map k (children (over a t) p))
  shows t k x p e h ins bes =
      let n : entered_by now (written (after a now) x) ≡ entered (over a t) p = ap (entered_by now) e ∙ not_open (written (over a t) p) h in
      ((λ i. told a.awaited (read_by (e i) (n i))), (λ i. map (child_by (n i) x) (reached (read_by (e i) (n i)))) ∙ go (entered (over a t) p) (reached (read_by (written (over a t) p) (entered (over a t) p))))
    where
      go : (w : Option ParcelShape) (cs : List ℕ) → map (child_by w x) cs ≡ map k (map (child_by w p) cs)
      go None [] = refl
      go None (c ∷ cs) = λ i. bes c i ∷ go None cs i
      go (Some u) [] = refl
      go (Some u) (c ∷ cs) = λ i. ins c i ∷ go (Some u) cs i

  pub shows_open : (x : Place) → IsOpen a f (written (after a now) x) → (found (after a now) x ≡ found (inside a v) (In_store 0)) × (children (after a now) x ≡ map (graft x) (children (inside a v) (In_store 0)))
  shows_open x o = let n = open_now (written (after a now) x) o in (
    (λ i. told a.awaited (read_by (written (after a now) x) (n i))) ∙ (λ i. told a.awaited (read_by (cell v.cells 0) (sym fill.plain i))),
    (λ i. map (child_by (n i) x) (reached (read_by (written (after a now) x) (n i)))) ∙ graft_map x (reached (cell v.cells 0)) ∙ (λ i. map (graft x) (map (child_by (sym fill.plain i) (In_store 0)) (reached (read_by (cell v.cells 0) (sym fill.plain i))))),
  )

  pub not_before : (p : Place) → IsOpen a f (written (after a now) p) → (q : Place) → Good (inside a v) q → IsDeep q → Good a (graft p q) → ⊥
  not_before p o (In_store zero) r d x = d
  not_before p o (In_store (suc c)) r d x = no_some (sym (open_before (written (after a now) p) o) ∙ ap (entered_by a.values) (written_still p x.0) ∙ x.1.1)
  not_before p o (In_value q j) r d x = not_before p o q r.0 (deep_base q r.1.0 r.1.1) x.0

  pub not_grafted : (p p' q : Place) → IsOpen a f (written (after a now) p) → IsOpen a f (written (after a now) p') → Good (inside a v) q → (u : ParcelShape) → entered (inside a v) q ≡ Some u → p ≡ graft p' q → ⊥
  not_grafted p p' q o o' r u e is = no_some (sym (open_before (written (after a now) p) o) ∙ ap (λ x. entered_by a.values (written (after a now) x)) is ∙ ap (entered_by a.values) (written_graft p' o' q r (deep_base q u e)) ∙ e)

  pub unique : (p p' : Place) → IsOpen a f (written (after a now) p) → IsOpen a f (written (after a now) p') → (q q' : Place) → Good (inside a v) q → Good (inside a v) q' → IsDeep q → IsDeep q' → graft p q ≡ graft p' q' → (p ≡ p') × (q ≡ q')
  unique p p' o o' (In_store zero) q' r r' d d' e = absurd d
  unique p p' o o' (In_store (suc c)) (In_store zero) r r' d d' e = absurd d'
  unique p p' o o' (In_store (suc c)) (In_store (suc c')) r r' d d' e = (ap base_of e, ap In_store (ap index_of e))
  unique p p' o o' (In_store (suc c)) (In_value q' j') r r' d d' e = absurd (not_grafted p p' q' o o' r'.0 r'.1.0 r'.1.1 (ap base_of e))
  unique p p' o o' (In_value q j) (In_store zero) r r' d d' e = absurd d'
  unique p p' o o' (In_value q j) (In_store (suc c')) r r' d d' e = absurd (not_grafted p' p q o' o r.0 r.1.0 r.1.1 (sym (ap base_of e)))
  unique p p' o o' (In_value q j) (In_value q' j') r r' d d' e =
      let ih = unique p p' o o' q q' r.0 r'.0 (deep_base q r.1.0 r.1.1) (deep_base q' r'.1.0 r'.1.1) (ap base_of e) in
      (ih.0, λ i. In_value (ih.1 i) (index_of (e i)))

-- Which cells are open

pub named : (x y : FutureShape) → Future x ≡ Future y → x ≡ y
named x y e = ap (λ c. elim c [ Future z ↦ z | _ ↦ x ]) e

pub no_future : {C : Type 0} (c d : CellShape) (f : FutureShape) → is_future c ≡ false → c ≡ d → d ≡ Future f → C
no_future c d f h e e' = absurd (true_false (is_future c) (ap is_future (e ∙ e')) h)

pub plain_told : (g : FutureShape → FutureShape) (c : CellShape) → is_future c ≡ false → is_future (told g c) ≡ false
plain_told g (Future x) h = none_true (sym h)
plain_told g (Number z) h = refl
plain_told g (Object fs ms) h = refl
plain_told g (Reference n) h = refl
plain_told g (Group ns) h = refl

module _ (a : Side) (h : IsClosedSide a) (f : FutureShape) where
  pub open_from : (c : CellShape) → told a.awaited (read_by c (entered_by a.values c)) ≡ Future f → IsOpen a f c
  open_from (Future x) e = go (a.values x) refl e
    where
      go : (o : Option ParcelShape) → a.values x ≡ o → told a.awaited (read_by (Future x) o) ≡ Future f → IsOpen a f (Future x)
      go None d e = is_open (d, named _ _ e)
      go (Some u) d e = no_future (told a.awaited (cell u.cells 0)) (told a.awaited (cell u.cells 0)) f (plain_told a.awaited (cell u.cells 0) (h.plain x u d)) refl e
  open_from (Number z) e = no_future (Number z) (told a.awaited (Number z)) f refl refl e
  open_from (Object fs ms) e = no_future (told a.awaited (Object fs ms)) (told a.awaited (Object fs ms)) f refl refl e
  open_from (Reference n) e = no_future (Reference n) (Reference n) f refl refl e
  open_from (Group ns) e = no_future (told a.awaited (Group ns)) (told a.awaited (Group ns)) f refl refl e

  pub open_shows : (c : CellShape) → IsOpen a f c → told a.awaited (read_by c (entered_by a.values c)) ≡ Future f
  open_shows _ (is_open {x = x} w) = (λ i. told a.awaited (read_by (Future x) (w.0 i))) ∙ ap Future w.1

  pub open_case : (c d : CellShape) → told a.awaited (read_by c (entered_by a.values c)) ≡ d → IsOpen a f c ⊎ (IsOpen a f c → ⊥)
  open_case c (Future y) e = ⊎_elim (λ p. inl (open_from c (e ∙ ap Future p))) (λ n. inr (λ o. n (named y f (sym e ∙ open_shows c o)))) (future_case y f)
  open_case c (Number z) e = inr (λ o. no_future (Number z) (Number z) f refl refl (sym e ∙ open_shows c o))
  open_case c (Object fs ms) e = inr (λ o. no_future (Object fs ms) (Object fs ms) f refl refl (sym e ∙ open_shows c o))
  open_case c (Reference n) e = inr (λ o. no_future (Reference n) (Reference n) f refl refl (sym e ∙ open_shows c o))
  open_case c (Group ns) e = inr (λ o. no_future (Group ns) (Group ns) f refl refl (sym e ∙ open_shows c o))

  pub open_or_not : (c : CellShape) → IsOpen a f c ⊎ (IsOpen a f c → ⊥)
  open_or_not c = open_case c (told a.awaited (read_by c (entered_by a.values c))) refl

pub inner_graft : (p r : Place) (c : ℕ) → inner (graft p r) c ≡ graft p (inner r c)
inner_graft p r zero = refl
inner_graft p r (suc c) = refl

pub beside_graft : (p r : Place) → IsDeep r → (c : ℕ) → beside (graft p r) c ≡ graft p (beside r c)
beside_graft p (In_store zero) d c = absurd d
beside_graft p (In_store (suc k)) d c = refl
beside_graft p (In_value q j) d c = inner_graft p q c
