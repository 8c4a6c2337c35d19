-- Places of terms and cells that are renumbered, and stores with more cells.
use Rattle.std.specs.Prelude.{◌≡◌, ℕ, zero, suc, ◌+◌, ◌<◌, ◌≤◌, List, [], ◌∷◌, ◌++◌, length, map}
use Rattle.std.specs.List.{flat_map}
use Rattle.std.proofs.Common.{refl, sym, ap, subst, ◌∙◌, arith, length-append}
use Rattle.std.proofs.lemmas.List.{map-append, length-map}
use Rattle.asp_model.specs.Term.{Head, Tree, Trees, node, none, more, own_locations, locations, locations_below, moved_head, moved, moved_below}
use Rattle.asp_model.specs.Term as term
use Rattle.asp_model.specs.Store.{MethodShape, Field, CellShape, Number, Object, Reference, Future, Group, Store, cell, with_cell, moved_cell, reached}
use Rattle.asp_model.specs.Parcel.{ParcelShape, unpack, unpacked_roots, place_at, unpack_at}
use Rattle.law_steps.specs.Closed.{AreBelow, CellsBelow, IsClosedStore}
use Rattle.law_steps.proofs.EachLemmas.{each_both, each_mapped, cells_more}

own_moved : (f : ℕ → ℕ) (h : Head) → own_locations (moved_head f h) ≡ map f (own_locations h)
own_moved f (term.Loc n) = refl
own_moved f h = refl

mutual
  pub locations_moved : (f : ℕ → ℕ) (t : Tree) → locations (moved f t) ≡ map f (locations t)
  locations_moved f (node h ts) = (λ i. own_moved f h i ++ below_moved f ts i) ∙ sym (map-append f (own_locations h) (locations_below ts))

  below_moved : (f : ℕ → ℕ) (ts : Trees) → locations_below (moved_below f ts) ≡ map f (locations_below ts)
  below_moved f none = refl
  below_moved f (more t ts) = (λ i. locations_moved f t i ++ below_moved f ts i) ∙ sym (map-append f (locations t) (locations_below ts))

abbrev moved_method : (ℕ → ℕ) → MethodShape → MethodShape
moved_method f m = record { head = m.head; body = moved f m.body }

abbrev moved_field : (ℕ → ℕ) → Field → Field
moved_field f x = record { label = x.label; place = f x.place }

methods_moved : (f : ℕ → ℕ) (ms : List MethodShape) → flat_map (λ m. locations m.body) (map (moved_method f) ms) ≡ map f (flat_map (λ m. locations m.body) ms)
methods_moved f [] = refl
methods_moved f (m ∷ ms) = (λ i. locations_moved f m.body i ++ methods_moved f ms i) ∙ sym (map-append f (locations m.body) _)

fields_moved : (f : ℕ → ℕ) (xs : List Field) → map (λ x. x.place) (map (moved_field f) xs) ≡ map f (map (λ x. x.place) xs)
fields_moved f [] = refl
fields_moved f (x ∷ xs) = ap (λ zs. f x.place ∷ zs) (fields_moved f xs)

pub reached_moved : (f : ℕ → ℕ) (c : CellShape) → reached (moved_cell f c) ≡ map f (reached c)
reached_moved f (Object fields methods) = (λ i. fields_moved f fields i ++ methods_moved f methods i) ∙ sym (map-append f (map (λ x. x.place) fields) _)
reached_moved f (Group ns) = refl
reached_moved f (Number z) = refl
reached_moved f (Reference n) = refl
reached_moved f (Future x) = refl

-- Bounds

pub places_moved : (j k : ℕ) (f : ℕ → ℕ) → ((i : ℕ) → i < j → f i < k) → (ns : List ℕ) → AreBelow j ns → AreBelow k (map f ns)
places_moved j k f to = each_mapped (λ i. i < j) (λ i. i < k) f to

pub cells_moved : (j k : ℕ) (f : ℕ → ℕ) → ((i : ℕ) → i < j → f i < k) → (cs : List CellShape) → CellsBelow j cs → CellsBelow k (map (moved_cell f) cs)
cells_moved j k f to = each_mapped (λ c. AreBelow j (reached c)) (λ c. AreBelow k (reached c)) (moved_cell f) (λ c h. subst (AreBelow k) (sym (reached_moved f c)) (places_moved j k f to (reached c) h))

-- the cell at a place
pub cell_below : (k : ℕ) (s : Store) → CellsBelow k s → (n : ℕ) → AreBelow k (reached (cell s n))
cell_below k [] h n = tt
cell_below k (c ∷ s) h zero = h.0
cell_below k (c ∷ s) h (suc n) = cell_below k s h.1 n

pub written_below : (k : ℕ) (s : Store) (n : ℕ) (d : CellShape) → CellsBelow k s → AreBelow k (reached d) → CellsBelow k (with_cell s n d)
written_below k [] n d h g = tt
written_below k (c ∷ s) zero d h g = (g, h.1)
written_below k (c ∷ s) (suc n) d h g = (h.0, written_below k s n d h.1 g)

pub length_written : (s : Store) (n : ℕ) (d : CellShape) → length (with_cell s n d) ≡ length s
length_written [] n d = refl
length_written (c ∷ s) zero d = refl
length_written (c ∷ s) (suc n) d = ap suc (length_written s n d)

-- a closed store with one cell more
pub allotted : (s : Store) (c : CellShape) → IsClosedStore s → AreBelow (suc (length s)) (reached c) → IsClosedStore (s ++ c ∷ [])
allotted s c h k =
    let e : suc (length s) ≡ length (s ++ c ∷ []) = omega (arith, length-append s (c ∷ [])) in
    subst (λ n. CellsBelow n (s ++ c ∷ [])) e (each_both (λ d. AreBelow (suc (length s)) (reached d)) s (c ∷ []) (cells_more (length s) (suc (length s)) (omega arith) s h) (k, tt))

-- Parcels that are unpacked

pub unpacked_length : (s : Store) (p : ParcelShape) → length (unpack s p) ≡ length s + length p.cells
unpacked_length s p = length-append s (map (moved_cell (λ n. n + length s)) p.cells) ∙ ap (λ n. length s + n) (length-map p.cells (moved_cell (λ n. n + length s)))

pub unpacked_closed : (s : Store) (p : ParcelShape) → IsClosedStore s → IsClosedStore p.cells → IsClosedStore (unpack s p)
unpacked_closed s p h k =
    let n : ℕ = length s + length p.cells in
    subst (λ k. CellsBelow k (unpack s p)) (sym (unpacked_length s p))
    (each_both (λ c. AreBelow n (reached c)) s (map (moved_cell (λ n. n + length s)) p.cells) (cells_more (length s) n (omega arith) s h)
    (cells_moved (length p.cells) n (λ n. n + length s) (λ i lt. omega (arith, lt)) p.cells k))

pub unpacked_roots_below : (s : Store) (p : ParcelShape) → AreBelow (length p.cells) p.roots → AreBelow (length (unpack s p)) (unpacked_roots s p)
unpacked_roots_below s p h = subst (λ k. AreBelow k (unpacked_roots s p)) (sym (unpacked_length s p)) (places_moved (length p.cells) (length s + length p.cells) (λ n. n + length s) (λ i lt. omega (arith, lt)) p.roots h)

at_below : (size place count i : ℕ) → place < size → i < suc count → place_at size place i < size + count
at_below size place count zero h lt = omega (arith, h)
at_below size place count (suc i) h lt = omega (arith, lt)

abbrev at_place : Store → ℕ → CellShape → CellShape
at_place s n = moved_cell (place_at (length s) n)

placed_length : (s : Store) (n : ℕ) (c : CellShape) (cs : List CellShape) → length (with_cell s n c ++ cs) ≡ length s + length cs
placed_length s n c cs = length-append (with_cell s n c) cs ∙ ap (λ k. k + length cs) (length_written s n c)

-- a closed store with a closed parcel in place of a cell; it is no shorter
pub unpacked_at_closed : (s : Store) (n : ℕ) (cells : List CellShape) (roots : List ℕ) → n < length s → IsClosedStore s → IsClosedStore cells → IsClosedStore (unpack_at s n (record { cells = cells; roots = roots })) × (length s ≤ length (unpack_at s n (record { cells = cells; roots = roots })))
unpacked_at_closed s n [] roots lt h k = (h, omega arith)
unpacked_at_closed s n (c ∷ cs) roots lt h k =
    let f : ℕ → ℕ = place_at (length s) n in
    let size : ℕ = length s + length cs in
    let moved = cells_moved (suc (length cs)) size f (λ i g. at_below (length s) n (length cs) i lt g) (c ∷ cs) k in
    let e = placed_length s n (moved_cell f c) (map (moved_cell f) cs) ∙ ap (λ k. length s + k) (length-map cs (moved_cell f)) in (
      subst (λ k. CellsBelow k (with_cell s n (moved_cell f c) ++ map (moved_cell f) cs)) (sym e)
          (each_both (λ d. AreBelow size (reached d)) (with_cell s n (moved_cell f c)) (map (moved_cell f) cs) (written_below size s n (moved_cell f c) (cells_more (length s) size (omega arith) s h) moved.0) moved.1),
      omega (arith, e),
    )
