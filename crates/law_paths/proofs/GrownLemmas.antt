-- A store with more cells, and a whole parcel that is unpacked behind it.
use Rattle.std.specs.Prelude.{◌≡◌, ℕ, ◌+◌, ◌<◌, ◌≤◌, Bool, true, false, ◌++◌, length, map}
use Rattle.std.proofs.Common.{refl, sym, ap, ◌∙◌, arith, length-append}
use Rattle.asp_model.specs.Store.{Store, cell, moved_cell, reached}
use Rattle.asp_model.specs.Parcel.{ParcelShape, unpack}
use Rattle.law_steps.specs.Closed.{IsClosedStore}
use Rattle.law_chases.proofs.FutureLemmas.{none_true}
use Rattle.law_steps.proofs.MovedLemmas.{reached_moved, cell_below, unpacked_length}
use Rattle.def_paths.specs.Places.{Place, In_store, In_value, Side}
use Rattle.law_paths.specs.Links.{IsClosedSide, Link}
use Rattle.law_paths.proofs.CellLemmas.{map_map, cell_map, cell_front, cell_back, told_moved, entered_moved}
use Rattle.law_paths.proofs.MoveLemmas as Moving

abbrev pub is_stored : Place → Bool
is_stored (In_store j) = true
is_stored (In_value q j) = false

pub stored_apart : {C : Type 0} {i c : ℕ} {q : Place} → In_store i ≡ In_value q c → C
stored_apart e = none_true (sym (ap is_stored e))

abbrev stored_number : Place → ℕ
stored_number (In_store j) = j
stored_number (In_value q j) = 0

pub same_stored : {i j : ℕ} → In_store i ≡ In_store j → i ≡ j
same_stored e = ap stored_number e

-- another store with the same values
abbrev pub over : Side → Store → Side
over a s = record a { store = s }

pub closed_over : (a : Side) (s : Store) → IsClosedSide a → IsClosedStore s → IsClosedSide (over a s)
closed_over a s h k = record { store = k; values = h.values; roots = h.roots; plain = h.plain }

-- More cells

module _ (a : Side) (h : IsClosedSide a) (t : Store) where
  abbrev IsOld : ℕ → Type 0
  IsOld j = j < length a.store

  abbrev pub grown : Side
  grown = over a (a.store ++ t)

  grown_moves : Moving.Moves grown a.store IsOld In_store
  grown_moves = record {
    within = λ j lt. lt;
    next = λ j lt. cell_below (length a.store) a.store h.store j;
    shown = λ j lt. Moving.shown_by grown a.store IsOld In_store j (cell a.store j) (cell a.store j) refl (cell_front a.store t j lt) refl refl refl;
    good = λ j lt. omega (arith, lt, length-append a.store t);
    one = λ i j x y e. same_stored e;
    apart = λ j c q u lt b g e d. stored_apart d;
  }

  -- a place of the store as it was, in the grown one
  abbrev pub Grows : Place → Place → Type 0
  Grows = Moving.WasAt grown a.store IsOld In_store

  pub grown_link : Link a grown Grows
  grown_link = Moving.moves_link grown a.store IsOld In_store grown_moves h

-- A parcel behind the store

module _ (a : Side) (p : ParcelShape) (k : IsClosedStore p.cells) (h : IsClosedSide a) where
  abbrev pub inside : Side
  inside = over a p.cells

  abbrev pub unpacked : Side
  unpacked = over a (unpack a.store p)

  abbrev pub up : ℕ → Place
  up j = In_store (j + length a.store)

  abbrev IsPart : ℕ → Type 0
  IsPart j = j < length p.cells

  unpacked_cell : (j : ℕ) → cell (unpack a.store p) (j + length a.store) ≡ moved_cell (λ n. n + length a.store) (cell p.cells j)
  unpacked_cell j = cell_back a.store (map (moved_cell (λ n. n + length a.store)) p.cells) j ∙ cell_map (λ n. n + length a.store) p.cells j

  unpacked_moves : Moving.Moves unpacked p.cells IsPart up
  unpacked_moves = record {
    within = λ j lt. lt;
    next = λ j lt. cell_below (length p.cells) p.cells k j;
    shown = λ j lt. let f : ℕ → ℕ = λ n. n + length a.store in
        Moving.shown_by unpacked p.cells IsPart up j (moved_cell f (cell p.cells j)) (cell p.cells j) refl (unpacked_cell j) (sym (entered_moved a.values f (cell p.cells j))) (sym (told_moved a.awaited f (cell p.cells j)))
        (sym (ap (map In_store) (reached_moved f (cell p.cells j)) ∙ map_map f In_store up (λ n. refl) (reached (cell p.cells j))));
    good = λ j lt. omega (arith, lt, unpacked_length a.store p);
    one = λ i j x y e. omega (arith, same_stored e);
    apart = λ j c q u lt b g e d. stored_apart d;
  }

  -- a place of the parcel, and where it is unpacked
  abbrev pub Unpacks : Place → Place → Type 0
  Unpacks = Moving.WasAt unpacked p.cells IsPart up

  pub unpacked_link : Link inside unpacked Unpacks
  unpacked_link = Moving.moves_link unpacked p.cells IsPart up unpacked_moves (closed_over a p.cells h k)

-- Where the places of the two stand

base_stored : (q : Place) → Moving.base (Moving.carried In_store q) ≡ Moving.base q
base_stored (In_store j) = refl
base_stored (In_value q c) = base_stored q

pub base_grown : (a : Side) (h : IsClosedSide a) (t : Store) (x p : Place) → Grows a h t x p → Moving.base p < length a.store
base_grown a h t x p g = omega (arith, g.1, base_stored x, ap Moving.base g.2)

base_up : (a : Side) (p : ParcelShape) (k : IsClosedStore p.cells) (h : IsClosedSide a) (q : Place) → Moving.base (Moving.carried (up a p k h) q) ≡ Moving.base q + length a.store
base_up a p k h (In_store j) = refl
base_up a p k h (In_value q c) = base_up a p k h q

pub base_unpacked : (a : Side) (p : ParcelShape) (k : IsClosedStore p.cells) (h : IsClosedSide a) (x q : Place) → Unpacks a p k h x q → length a.store ≤ Moving.base q
base_unpacked a p k h x q u = omega (arith, base_up a p k h x, ap Moving.base u.2)
