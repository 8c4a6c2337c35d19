-- No sum passes the last place, where the store's places are all below it.
use Rattle.std.proofs.Common.{◌≡◌, ℕ, zero, suc, ◌+◌, ◌-◌, ◌^◌, ◌<◌, ◌≤◌, min, List, [], ◌∷◌, ◌++◌, length, map, refl, sym, ap, subst, ◌∙◌, arith, length-append}
use Rattle.std.proofs.lemmas.List.{length-map}
use Rattle.asp_model.specs.Store.{CellShape, Store, with_cell, moved_cell}
use Rattle.asp_model.specs.Parcel.{ParcelShape, place_at, unpack, unpacked_roots, unpack_at, with_cells_at}
use Rattle.law_steps.specs.Closed.{AreBelow, CellsBelow, IsClosedParcel, IsClosedStore, IsClosedValue}
use Rattle.law_steps.proofs.MovedLemmas.{length_written, unpacked_closed, unpacked_at_closed}
use Rattle.code_table.specs.declared.code.Node.{Node}
use Rattle.code_table.specs.Sound.{IsSound}
use Rattle.code_table.specs.Cells.{CodedStore, moved_coded, with_coded_at}
use Rattle.code_table.specs.Fits.{AllFitCode}
use Rattle.code_table.specs.Shapes.{store_of}
use Rattle.code_table.proofs.CodedLemmas.{length-store_of, store_of-append, store_of-with_coded}
use Rattle.code_table.proofs.FitsLemmas.{all_fit_append, all_fit_moved, all_fit_with_coded}
use Rattle.code_table.specs.Moves.{raised, raised_at}
use Rattle.deep_copy.proofs.MeaningLemmas.{store_moved}
use Rattle.deep_copy.proofs.CopyLemmas.{cells_alike, roots_alike}

least_sum : (n size top : ℕ) → n + size ≤ top → min (n + size) top ≡ n + size
least_sum n size top le = omega arith

sum_fits : (n size after : ℕ) → n + size < after → after < 2 ^ 64 → raised n size ≡ n + size
sum_fits n size after lt fits = least_sum n size (2 ^ 64 - 1) (omega arith)

-- Behind the store's own cells

behind_length : (s : Store) (f : ℕ → ℕ) (cs : List CellShape) → length (s ++ map (moved_cell f) cs) ≡ length s + length cs
behind_length s f cs = length-append s (map (moved_cell f) cs) ∙ ap (λ n. length s + n) (length-map cs (moved_cell f))

module _ (s after : Store) (p : ParcelShape) (copies : List CellShape) (size : ℕ) (measured : size ≡ length s) (grafted : after ≡ s ++ copies) (copied : copies ≡ map (moved_cell (λ n. raised n size)) p.cells) (fits : length after < 2 ^ 64) (closed : IsClosedParcel p) where
  up : (n : ℕ) → n < length p.cells → raised n size ≡ n + length s
  up n lt =
      let e : length after ≡ length s + length p.cells = ap length (grafted ∙ ap (λ cs. s ++ cs) copied) ∙ behind_length s (λ n. raised n size) p.cells in
      sum_fits n size (length after) (omega arith) fits ∙ ap (λ k. n + k) measured

  pub unpacked : after ≡ unpack s p
  unpacked = grafted ∙ ap (λ cs. s ++ cs) (copied ∙ cells_alike (λ n. raised n size) (λ n. n + length s) (length p.cells) up p.cells closed.cells)

  pub roots_unpacked : map (λ n. raised n size) p.roots ≡ unpacked_roots s p
  roots_unpacked = roots_alike (λ n. raised n size) (λ n. n + length s) (length p.cells) up p.roots closed.roots

  pub closed_unpacked : IsClosedStore s → IsClosedStore after
  closed_unpacked h = subst IsClosedStore (sym unpacked) (unpacked_closed s p h closed.cells)

-- With the root in place of a cell

at_length : (s : Store) (loc : ℕ) (f : ℕ → ℕ) (c : CellShape) (cs : List CellShape) → length (with_cells_at s loc (map (moved_cell f) (c ∷ cs))) ≡ length s + length cs
at_length s loc f c cs = length-append (with_cell s loc (moved_cell f c)) (map (moved_cell f) cs) ∙ (λ i. length_written s loc (moved_cell f c) i + length-map cs (moved_cell f) i)

to_root : (s : Store) (loc size : ℕ) (cs : List CellShape) (after : ℕ) → size ≡ length s → after ≡ length s + length cs → after < 2 ^ 64 → (n : ℕ) → n < suc (length cs) → raised_at size loc n ≡ place_at (length s) loc n
to_root s loc size cs after measured e fits zero lt = refl
to_root s loc size cs after measured e fits (suc n) lt = sum_fits n size after (omega arith) fits ∙ ap (λ k. n + k) measured

pub unpacked_root : (s after : Store) (loc size : ℕ) (p : ParcelShape) → size ≡ length s → after ≡ with_cells_at s loc (map (moved_cell (raised_at size loc)) p.cells) → length after < 2 ^ 64 → CellsBelow (length p.cells) p.cells → after ≡ unpack_at s loc p
unpacked_root s after loc size p measured grafted fits closed = by p.cells grafted closed
  where
    by : (cs : List CellShape) → after ≡ with_cells_at s loc (map (moved_cell (raised_at size loc)) cs) → CellsBelow (length cs) cs → after ≡ with_cells_at s loc (map (moved_cell (place_at (length s) loc)) cs)
    by [] e h = e
    by (c ∷ cs) e h = e ∙ ap (with_cells_at s loc) (cells_alike (raised_at size loc) (place_at (length s) loc) (suc (length cs)) (to_root s loc size cs (length after) measured (ap length e ∙ at_length s loc (raised_at size loc) c cs) fits) (c ∷ cs) h)

pub closed_root : (s after : Store) (loc : ℕ) (p : ParcelShape) → after ≡ unpack_at s loc p → loc < length s → CellsBelow (length p.cells) p.cells → IsClosedStore s → IsClosedStore after
closed_root s after loc p e lt closed h = subst IsClosedStore (sym e) (unpacked_at_closed s loc p.cells p.roots lt h closed).0

-- the root is a cell
pub some_cell : (p : ParcelShape) → IsClosedValue p → 0 < length p.cells
some_cell p v = (subst (AreBelow (length p.cells)) v.root v.closed.roots).0

-- Of coded cells

abbrev pub parcel_with : List Node → CodedStore → List ℕ → ParcelShape
parcel_with code cells roots = record { cells = store_of code cells; roots = roots }

module _ (code : List Node) (sound : IsSound code) where
  meant : (f : ℕ → ℕ) (copies cells : CodedStore) → copies ≡ map (moved_coded f) cells → store_of code copies ≡ map (moved_cell f) (store_of code cells)
  meant f copies cells e = ap (store_of code) e ∙ store_moved code sound f cells

  fits_meant : (after : CodedStore) → length after < 2 ^ 64 → length (store_of code after) < 2 ^ 64
  fits_meant after h = subst (λ n. n < 2 ^ 64) (sym (length-store_of code after)) h

  copies_fit : (f : ℕ → ℕ) (copies cells : CodedStore) → copies ≡ map (moved_coded f) cells → AllFitCode code cells → AllFitCode code copies
  copies_fit f copies cells e h = subst (AllFitCode code) (sym e) (all_fit_moved code f cells h)

  module _ (s after cells copies : CodedStore) (roots : List ℕ) (size : ℕ) (measured : size ≡ length s) (grafted : after ≡ s ++ copies) (copied : copies ≡ map (moved_coded (λ n. raised n size)) cells) (fits : length after < 2 ^ 64) (closed : IsClosedParcel (parcel_with code cells roots)) where
    size_meant : size ≡ length (store_of code s)
    size_meant = measured ∙ sym (length-store_of code s)

    grafted_meant : store_of code after ≡ store_of code s ++ store_of code copies
    grafted_meant = ap (store_of code) grafted ∙ store_of-append code s copies

    copied_meant : store_of code copies ≡ map (moved_cell (λ n. raised n size)) (store_of code cells)
    copied_meant = meant (λ n. raised n size) copies cells copied

    pub unpacked_coded : store_of code after ≡ unpack (store_of code s) (parcel_with code cells roots)
    unpacked_coded = unpacked (store_of code s) (store_of code after) (parcel_with code cells roots) (store_of code copies) size size_meant grafted_meant copied_meant (fits_meant after fits) closed

    pub roots_coded : map (λ n. raised n size) roots ≡ unpacked_roots (store_of code s) (parcel_with code cells roots)
    roots_coded = roots_unpacked (store_of code s) (store_of code after) (parcel_with code cells roots) (store_of code copies) size size_meant grafted_meant copied_meant (fits_meant after fits) closed

    pub closed_coded : IsClosedStore (store_of code s) → IsClosedStore (store_of code after)
    closed_coded = closed_unpacked (store_of code s) (store_of code after) (parcel_with code cells roots) (store_of code copies) size size_meant grafted_meant copied_meant (fits_meant after fits) closed

    pub fit_coded : AllFitCode code cells → AllFitCode code s → AllFitCode code after
    fit_coded h g = subst (AllFitCode code) (sym grafted) (all_fit_append code s copies g (copies_fit (λ n. raised n size) copies cells copied h))

  module _ (s after cells copies : CodedStore) (roots : List ℕ) (loc size : ℕ) (measured : size ≡ length s) (grafted : after ≡ with_coded_at s loc copies) (copied : copies ≡ map (moved_coded (raised_at size loc)) cells) (fits : length after < 2 ^ 64) (closed : IsClosedStore (store_of code cells)) where
    pub root_coded : store_of code after ≡ unpack_at (store_of code s) loc (parcel_with code cells roots)
    root_coded = unpacked_root (store_of code s) (store_of code after) loc size (parcel_with code cells roots) (measured ∙ sym (length-store_of code s))
        (ap (store_of code) grafted ∙ store_of-with_coded code s copies loc ∙ ap (with_cells_at (store_of code s) loc) (meant (raised_at size loc) copies cells copied)) (fits_meant after fits) closed

    pub closed_root_coded : loc < length s → IsClosedStore (store_of code s) → IsClosedStore (store_of code after)
    closed_root_coded lt = closed_root (store_of code s) (store_of code after) loc (parcel_with code cells roots) root_coded (subst (λ n. loc < n) (sym (length-store_of code s)) lt) closed

    pub fit_root_coded : AllFitCode code cells → AllFitCode code s → AllFitCode code after
    fit_root_coded h g = subst (AllFitCode code) (sym grafted) (all_fit_with_coded code s copies loc g (copies_fit (raised_at size loc) copies cells copied h))
