-- Awaited names that change alike on both sides, and a value that is read through a future.
use Rattle.std.specs.Prelude.{◌≡◌, ◌≢◌, ℕ, zero, suc, ◌<◌, false, Option, Some, None, length, map}
use Rattle.std.proofs.Common.{refl, sym, ap, subst, ◌∙◌}
use Rattle.asp_model.specs.Names.{FutureShape}
use Rattle.asp_model.specs.Store.{CellShape, Number, Object, Reference, Future, Group, cell, reached}
use Rattle.asp_model.specs.Parcel.{ParcelShape}
use Rattle.asp_model.specs.Contraction.{is_future}
use Rattle.law_chases.proofs.FutureLemmas.{no_some, none_true}
use Rattle.law_steps.proofs.MovedLemmas.{cell_below}
use Rattle.def_paths.specs.Places.{Place, In_store, In_value, Side, inner, read_by, child_by, entered_by, told, written, entered, found, children, part}
use Rattle.def_paths.specs.Agree.{Pairs}
use Rattle.law_paths.specs.Links.{IsClosedSide, Good, Link}
use Rattle.law_paths.proofs.CellLemmas.{blank_moved, not_entered}
use Rattle.law_paths.proofs.GoodLemmas.{entered_value}
use Rattle.law_paths.proofs.GrownLemmas.{over, closed_over, stored_apart}
use Rattle.law_paths.proofs.MoveLemmas.{same_base, same_number, carried}
use Rattle.law_paths.proofs.MoveLemmas as Moving

abbrev pub retold : Side → (FutureShape → FutureShape) → Side
retold a names = record a { awaited = names }

-- the awaited names are g of those before
abbrev pub RenamedBy : (FutureShape → FutureShape) → Side → (FutureShape → FutureShape) → Type 0
RenamedBy g a names = (x : FutureShape) → a.values x ≡ None → names x ≡ g (a.awaited x)

-- what shows of a cell that is no future shows of it again
told_plain : (g names awaited : FutureShape → FutureShape) (c : CellShape) → is_future c ≡ false → told names c ≡ told g (told awaited c)
told_plain g names awaited (Future x) h = none_true (sym h)
told_plain g names awaited (Number z) h = refl
told_plain g names awaited (Object fs ms) h = sym (blank_moved (λ n. 0) (Object fs ms))
told_plain g names awaited (Reference n) h = refl
told_plain g names awaited (Group ns) h = sym (blank_moved (λ n. 0) (Group ns))

module _ (g : FutureShape → FutureShape) (a : Side) (h : IsClosedSide a) (names : FutureShape → FutureShape) (by : RenamedBy g a names) where
  -- a cell that is not entered
  told_again : (c : CellShape) → entered_by a.values c ≡ None → told names c ≡ told g (told a.awaited c)
  told_again (Future x) e = ap Future (by x e)
  told_again (Number z) e = told_plain g names a.awaited (Number z) refl
  told_again (Object fs ms) e = told_plain g names a.awaited (Object fs ms) refl
  told_again (Reference n) e = told_plain g names a.awaited (Reference n) refl
  told_again (Group ns) e = told_plain g names a.awaited (Group ns) refl

  found_by : (c : CellShape) (o : Option ParcelShape) → entered_by a.values c ≡ o → told names (read_by c o) ≡ told g (told a.awaited (read_by c o))
  found_by c None e = told_again c e
  found_by c (Some u) e = let f = entered_value a.values c u e in told_plain g names a.awaited (cell u.cells 0) (h.plain f.0 u f.1)

  written_retold : (p : Place) → written (retold a names) p ≡ written a p
  written_retold (In_store j) = refl
  written_retold (In_value q j) = ap (λ c. part (entered_by a.values c) j) (written_retold q)

  found_retold : (p : Place) → found (retold a names) p ≡ told g (found a p)
  found_retold p = (λ i. told names (read_by (written_retold p i) (entered_by a.values (written_retold p i)))) ∙ found_by (written a p) (entered a p) refl

  children_retold : (p : Place) → children (retold a names) p ≡ children a p
  children_retold p = λ i. map (child_by (entered_by a.values (written_retold p i)) p) (reached (read_by (written_retold p i) (entered_by a.values (written_retold p i))))

  good_retold : (p : Place) → Good a p → Good (retold a names) p
  good_retold (In_store j) r = r
  good_retold (In_value q j) r = (good_retold q r.0, (r.1.0, ap (entered_by a.values) (written_retold q) ∙ r.1.1, r.1.2))

-- what showed the same still does where the awaited names change alike
pub retold_link : (g : FutureShape → FutureShape) (a b : Side) → IsClosedSide a → IsClosedSide b → (m n : FutureShape → FutureShape) → RenamedBy g a m → RenamedBy g b n → (R : Place → Place → Type 0) → Link a b R → Link (retold a m) (retold b n) R
retold_link g a b ha hb m n by by' R l = record {
  left = λ p q r. good_retold g a ha m by p (l.left p q r);
  right = λ p q r. good_retold g b hb n by' q (l.right p q r);
  same = λ p q r. found_retold g a ha m by p ∙ ap (told g) (l.same p q r) ∙ sym (found_retold g b hb n by' q);
  next = λ p q r. subst (λ ps. Pairs R ps (children (retold b n) q)) (sym (children_retold g a ha m by p)) (subst (Pairs R (children a p)) (sym (children_retold g b hb n by' q)) (l.next p q r));
  once = l.once;
  back = l.back;
}

-- A value that a root enters

abbrev inner_number : Place → ℕ
inner_number (In_store j) = j
inner_number (In_value q j) = j

inner_one : (j k : ℕ) → inner (In_store 0) j ≡ inner (In_store 0) k → j ≡ k
inner_one zero zero e = refl
inner_one zero (suc k) e = stored_apart e
inner_one (suc j) zero e = stored_apart (sym e)
inner_one (suc j) (suc k) e = ap inner_number e

-- a side whose first cell is a future with this value
module _ (a : Side) (h : IsClosedSide a) (v : ParcelShape) (f : FutureShape) (first : 0 < length a.store) (at : cell a.store 0 ≡ Future f) (value : a.values f ≡ Some v) where
  abbrev pub value_side : Side
  value_side = over a v.cells

  abbrev IsPart : ℕ → Type 0
  IsPart j = j < length v.cells

  abbrev root_place : ℕ → Place
  root_place = inner (In_store 0)

  entered_first : entered a (In_store 0) ≡ Some v
  entered_first = ap (entered_by a.values) at ∙ value

  plain_first : entered value_side (In_store 0) ≡ None
  plain_first = not_entered a.values (cell v.cells 0) (h.plain f v value)

  value_shown : (j : ℕ) → Moving.Shown a v.cells IsPart root_place j
  value_shown zero = Moving.reading plain_first (λ i. told a.awaited (read_by (written a (In_store 0)) (sym entered_first i))) (λ i. map (child_by (sym entered_first i) (In_store 0)) (reached (read_by (written a (In_store 0)) (sym entered_first i))))
  value_shown (suc k) = Moving.shown_by a v.cells IsPart root_place (suc k) (cell v.cells (suc k)) (cell v.cells (suc k)) refl (λ i. part (entered_first i) (suc k)) refl refl refl

  value_good : (j : ℕ) → IsPart j → Good a (root_place j)
  value_good zero lt = first
  value_good (suc k) lt = (first, (v, entered_first, lt))

  not_first : (q : Place) (u : ParcelShape) → entered value_side q ≡ Some u → In_store 0 ≡ carried root_place q → ⊥
  not_first (In_store zero) u e d = no_some (sym plain_first ∙ e)
  not_first (In_store (suc k)) u e d = stored_apart d
  not_first (In_value q c) u e d = stored_apart d

  value_apart : (j c : ℕ) (q : Place) (u : ParcelShape) → entered value_side q ≡ Some u → root_place j ≢ In_value (carried root_place q) c
  value_apart zero c q u e d = stored_apart d
  value_apart (suc k) c q u e d = not_first q u e (same_base d)

  value_moves : Moving.Moves a v.cells IsPart root_place
  value_moves = record {
    within = λ j lt. lt;
    next = λ j lt. cell_below (length v.cells) v.cells (h.values f v value) j;
    shown = λ j lt. value_shown j;
    good = value_good;
    one = λ j k x y e. inner_one j k e;
    apart = λ j c q u x y b e d. value_apart j c q u e d;
  }

  -- a place of the value, and where it is read
  abbrev pub Reads : Place → Place → Type 0
  Reads = Moving.WasAt a v.cells IsPart root_place

  pub value_link : Link value_side a Reads
  value_link = Moving.moves_link a v.cells IsPart root_place value_moves (closed_over a v.cells h (h.values f v value))

  pub reads_root : Reads (In_store 0) (In_store 0)
  reads_root = (h.roots f v value, h.roots f v value, refl)
