-- A value that is unpacked at a place of its future.
use Rattle.std.specs.Prelude.{◌≡◌, ◌≢◌, ℕ, zero, suc, ◌+◌, ◌-◌, ◌<◌, ◌≤◌, nat_lt, ◌==◌, Bool, true, false, List, [], ◌∷◌, Some, None, length, map}
use Rattle.std.proofs.Common.{refl, sym, ap, subst, ◌∙◌, arith, inl, inr, ⊎_elim, ◌⊎◌, length-append}
use Rattle.std.proofs.lemmas.Bool.{lt-ltb, le-ltb, eqb-true, eqb-false, cases_lt}
use Rattle.std.proofs.lemmas.List.{length-map}
use Rattle.asp_model.specs.Names.{FutureShape}
use Rattle.asp_model.specs.Store.{CellShape, Future, Store, cell, with_cell, moved_cell, reached}
use Rattle.asp_model.specs.Parcel.{ParcelShape, place_at, with_cells_at, unpack_at}
use Rattle.asp_model.specs.Contraction.{is_future}
use Rattle.law_steps.specs.Linked.{Each}
use Rattle.law_steps.specs.Closed.{IsClosedStore}
use Rattle.law_chases.proofs.FutureLemmas.{no_some}
use Rattle.law_steps.proofs.MovedLemmas.{reached_moved, cell_below, length_written, unpacked_at_closed}
use Rattle.def_paths.specs.Places.{Place, In_store, In_value, Side, inner, beside, part, read_by, child_by, entered_by, told, written, entered, found, children}
use Rattle.law_paths.specs.Links.{IsClosedSide, Good, Link}
use Rattle.law_paths.proofs.CellLemmas.{map_map, cell_map, cell_front, cell_back, cell_there, cell_elsewhere, told_moved, entered_moved, not_entered}
use Rattle.law_paths.proofs.GrownLemmas.{over, closed_over, same_stored, stored_apart}
use Rattle.law_paths.proofs.MoveLemmas.{same_base, same_number, base, carried}
use Rattle.law_paths.proofs.MoveLemmas as Moving

pub number_case : (j i : ℕ) → (j ≡ i) ⊎ (j ≢ i)
number_case j i = elim (j == i) as (λ b. (j == i) ≡ b → (j ≡ i) ⊎ (j ≢ i)) [ true ↦ λ e. inl (eqb-true j i e) | false ↦ λ e. inr (eqb-false j i e) ] refl

pub each_of : {X : Type 0} (P : X → Type 0) (f : ℕ → X) → ((c : ℕ) → P (f c)) → (cs : List ℕ) → Each P (map f cs)
each_of P f to [] = tt
each_of P f to (c ∷ cs) = (to c, each_of P f to cs)

pub map_on : {A : Type 0} (P : ℕ → Type 0) (f g : ℕ → A) → ((c : ℕ) → P c → f c ≡ g c) → (cs : List ℕ) → Each P cs → map f cs ≡ map g cs
map_on P f g e [] h = refl
map_on P f g e (c ∷ cs) h = λ i. e c h.0 i ∷ map_on P f g e cs h.1 i

abbrev pub low_or : Bool → ℕ → ℕ → ℕ → Place
low_or true n i j = In_store j
low_or false n i j = In_value (In_store i) (suc (j - n))

-- a value whose root is no future
module _ (a : Side) (h : IsClosedSide a) (i : ℕ) (f : FutureShape) (c : CellShape) (cs : List CellShape) (roots : List ℕ)
    (low : i < length a.store) (at : cell a.store i ≡ Future f) (value : a.values f ≡ Some (record { cells = c ∷ cs; roots = roots })) where
  abbrev pub v : ParcelShape
  v = record { cells = c ∷ cs; roots = roots }

  abbrev pub n : ℕ
  n = length a.store

  abbrev pub g : ℕ → ℕ
  g = place_at n i

  abbrev pub s : Store
  s = unpack_at a.store i v

  abbrev pub delivered : Side
  delivered = over a s

  -- where a cell of the new store was
  abbrev pub m : ℕ → Place
  m j = low_or (nat_lt j n) n i j

  m_low : (j : ℕ) → j < n → m j ≡ In_store j
  m_low j lt = ap (λ b. low_or b n i j) (lt-ltb j n lt)

  m_new : (k : ℕ) → m (k + n) ≡ In_value (In_store i) (suc k)
  m_new k = let e : k + n - n ≡ k = omega arith in ap (λ b. low_or b n i (k + n)) (le-ltb (k + n) n (omega arith)) ∙ ap (λ x. In_value (In_store i) (suc x)) e

  m_value : (j : ℕ) → m (g j) ≡ inner (In_store i) j
  m_value zero = m_low i low
  m_value (suc k) = m_new k

  abbrev pub IsNew : ℕ → Type 0
  IsNew j = j < length s

  pub size : length s ≡ n + length cs
  size = length-append (with_cell a.store i (moved_cell g c)) (map (moved_cell g) cs) ∙ ap (λ k. k + length (map (moved_cell g) cs)) (length_written a.store i (moved_cell g c)) ∙ ap (λ k. n + k) (length-map cs (moved_cell g))

  pub cell_low : (j : ℕ) → j < n → j ≢ i → cell s j ≡ cell a.store j
  cell_low j lt ne = cell_front (with_cell a.store i (moved_cell g c)) (map (moved_cell g) cs) j (omega (arith, lt, length_written a.store i (moved_cell g c))) ∙ cell_elsewhere a.store i j (moved_cell g c) ne

  pub cell_at_i : cell s i ≡ moved_cell g c
  cell_at_i = cell_front (with_cell a.store i (moved_cell g c)) (map (moved_cell g) cs) i (omega (arith, low, length_written a.store i (moved_cell g c))) ∙ cell_there a.store i (moved_cell g c) low

  cell_new : (k : ℕ) → cell s (k + n) ≡ moved_cell g (cell cs k)
  cell_new k = ap (λ x. cell s (k + x)) (sym (length_written a.store i (moved_cell g c))) ∙ cell_back (with_cell a.store i (moved_cell g c)) (map (moved_cell g) cs) k ∙ cell_map g cs k

  closed_value : IsClosedStore (c ∷ cs)
  closed_value = h.values f v value

  pub delivered_closed : IsClosedSide delivered
  delivered_closed = closed_over a s h (unpacked_at_closed a.store i (c ∷ cs) roots low h.store closed_value).0

  pub plain : is_future c ≡ false
  plain = h.plain f v value

  not_here : entered delivered (In_store i) ≡ None
  not_here = ap (entered_by a.values) cell_at_i ∙ entered_moved a.values g c ∙ not_entered a.values c plain

  there : entered a (In_store i) ≡ Some v
  there = ap (entered_by a.values) at ∙ value

  data Spot : ℕ → Type 0 where
    is_low : {j : ℕ} → j < n → j ≢ i → Spot j
    is_at : Spot i
    is_new : (k : ℕ) → k < length cs → Spot (k + n)

  spot : (j : ℕ) → IsNew j → Spot j
  spot j new = ⊎_elim
      (λ lt. ⊎_elim (λ e. subst Spot (sym e) is_at) (λ ne. is_low lt ne) (number_case j i))
      (λ le. let e : j - n + n ≡ j = omega arith in subst Spot e (is_new (j - n) (omega (arith, le, new, size))))
      (cases_lt j n)

  kids : (x : CellShape) → map m (reached (moved_cell g x)) ≡ map (inner (In_store i)) (reached x)
  kids x = ap (map m) (reached_moved g x) ∙ map_map g m (inner (In_store i)) m_value (reached x)

  abbrev Shown : ℕ → Type 0
  Shown = Moving.Shown a s IsNew m

  shown_at : (j : ℕ) → Spot j → Shown j
  shown_at j (is_low lt ne) = Moving.shown_by a s IsNew m j (cell a.store j) (cell a.store j) (cell_low j lt ne) (ap (written a) (m_low j lt)) refl refl
      (map_on (λ x. x < n) m In_store m_low (reached (cell a.store j)) (cell_below n a.store h.store j) ∙ sym (λ k. map (beside (m_low j lt k)) (reached (cell a.store j))))
  shown_at j is_at = Moving.reading not_here
      (ap (told a.awaited) cell_at_i ∙ told_moved a.awaited g c ∙ sym ((λ k. found a (m_low i low k)) ∙ (λ k. told a.awaited (read_by (written a (In_store i)) (there k)))))
      (ap (λ x. map m (reached x)) cell_at_i ∙ kids c ∙ sym ((λ k. children a (m_low i low k)) ∙ (λ k. map (child_by (there k) (In_store i)) (reached (read_by (written a (In_store i)) (there k))))))
  shown_at j (is_new k lt) = Moving.shown_by a s IsNew m (k + n) (cell cs k) (moved_cell g (cell cs k)) (cell_new k) (ap (written a) (m_new k) ∙ (λ x. part (there x) (suc k)))
      (entered_moved a.values g (cell cs k)) (told_moved a.awaited g (cell cs k)) (kids (cell cs k) ∙ ap (λ q. map (beside q) (reached (cell cs k))) (sym (m_new k)))

  good_at : (j : ℕ) → Spot j → Good a (m j)
  good_at j (is_low lt ne) = subst (Good a) (sym (m_low j lt)) lt
  good_at j is_at = subst (Good a) (sym (m_low i low)) low
  good_at j (is_new k lt) = subst (Good a) (sym (m_new k)) (low, (v, there, omega (arith, lt)))

  m_high : (j : ℕ) → n ≤ j → m j ≡ In_value (In_store i) (suc (j - n))
  m_high j le = ap (λ b. low_or b n i j) (le-ltb j n le)

  one_at : (j k : ℕ) → (j < n) ⊎ (n ≤ j) → (k < n) ⊎ (n ≤ k) → m j ≡ m k → j ≡ k
  one_at j k (inl x) (inl y) e = same_stored (sym (m_low j x) ∙ e ∙ m_low k y)
  one_at j k (inl x) (inr y) e = stored_apart (sym (m_low j x) ∙ e ∙ m_high k y)
  one_at j k (inr x) (inl y) e = stored_apart (sym (m_low k y) ∙ sym e ∙ m_high j x)
  one_at j k (inr x) (inr y) e = omega (arith, x, y, same_number (sym (m_high j x) ∙ e ∙ m_high k y))

  -- the place of the future is not entered any more
  not_root : (q : Place) (u : ParcelShape) → entered delivered q ≡ Some u → In_store i ≡ carried m q → ⊥
  not_root (In_store k) u e d = ⊎_elim
      (λ x. let same : i ≡ k = same_stored (d ∙ m_low k x) in no_some (sym not_here ∙ ap (λ j. entered delivered (In_store j)) same ∙ e))
      (λ x. stored_apart (d ∙ m_high k x))
      (cases_lt k n)
  not_root (In_value q c) u e d = stored_apart d

  apart_at : (j c : ℕ) (q : Place) (u : ParcelShape) → (j < n) ⊎ (n ≤ j) → entered delivered q ≡ Some u → m j ≢ In_value (carried m q) c
  apart_at j c q u (inl x) e d = stored_apart (sym (m_low j x) ∙ d)
  apart_at j c q u (inr x) e d = not_root q u e (same_base (sym (m_high j x) ∙ d))

  delivered_moves : Moving.Moves a s IsNew m
  delivered_moves = record {
    within = λ j lt. lt;
    next = λ j lt. cell_below (length s) s delivered_closed.store j;
    shown = λ j lt. shown_at j (spot j lt);
    good = λ j lt. good_at j (spot j lt);
    one = λ j k x y e. one_at j k (cases_lt j n) (cases_lt k n) e;
    apart = λ j c q u x y g e. apart_at j c q u (cases_lt j n) e;
  }

  -- a place of the store after the delivery, and where it was read before
  abbrev pub Delivers : Place → Place → Type 0
  Delivers = Moving.WasAt a s IsNew m

  pub delivered_link : Link delivered a Delivers
  delivered_link = Moving.moves_link a s IsNew m delivered_moves delivered_closed

  -- a cell stands where it stood
  pub delivers : (j : ℕ) → j < n → Delivers (In_store j) (In_store j)
  delivers j lt = let e : j < length s = omega (arith, lt, size) in (e, e, m_low j lt)

-- A value whose root is a future: the place holds that future from now on

module _ (a : Side) (h : IsClosedSide a) (i : ℕ) (f g : FutureShape) (ws : List CellShape) (low : i < length a.store) (at : cell a.store i ≡ Future f) (values : a.values f ≡ a.values g) (awaited : a.awaited f ≡ a.awaited g) where
  abbrev pub passed : Side
  passed = over a (with_cells_at a.store i (Future g ∷ ws))

  abbrev IsOld : ℕ → Type 0
  IsOld j = j < length a.store

  passed_there : cell passed.store i ≡ Future g
  passed_there = cell_front (with_cell a.store i (Future g)) ws i (omega (arith, low, length_written a.store i (Future g))) ∙ cell_there a.store i (Future g) low

  passed_elsewhere : (j : ℕ) → j < length a.store → j ≢ i → cell passed.store j ≡ cell a.store j
  passed_elsewhere j lt ne = cell_front (with_cell a.store i (Future g)) ws j (omega (arith, lt, length_written a.store i (Future g))) ∙ cell_elsewhere a.store i j (Future g) ne

  passed_shown : (j : ℕ) → IsOld j → (j ≡ i) ⊎ (j ≢ i) → Moving.Shown passed a.store IsOld In_store j
  passed_shown j lt (inl e) = subst (Moving.Shown passed a.store IsOld In_store) (sym e) (Moving.shown_by passed a.store IsOld In_store i (Future g) (Future f) at passed_there values (ap Future awaited) refl)
  passed_shown j lt (inr ne) = Moving.shown_by passed a.store IsOld In_store j (cell a.store j) (cell a.store j) refl (passed_elsewhere j lt ne) refl refl refl

  passed_moves : Moving.Moves passed a.store IsOld In_store
  passed_moves = record {
    within = λ j lt. lt;
    next = λ j lt. cell_below (length a.store) a.store h.store j;
    shown = λ j lt. passed_shown j lt (number_case j i);
    good = λ j lt. omega (arith, lt, length-append (with_cell a.store i (Future g)) ws, length_written a.store i (Future g));
    one = λ j k x y e. same_stored e;
    apart = λ j c q u x y b e d. stored_apart d;
  }

  abbrev pub Passes : Place → Place → Type 0
  Passes = Moving.WasAt passed a.store IsOld In_store

  pub passed_link : Link a passed Passes
  passed_link = Moving.moves_link passed a.store IsOld In_store passed_moves h
