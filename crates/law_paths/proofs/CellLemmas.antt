-- Cells that are renumbered, and cells of a store that was written and made longer.
use Rattle.std.specs.Prelude.{◌≡◌, ◌≢◌, ℕ, zero, suc, ◌+◌, ◌<◌, false, List, [], ◌∷◌, ◌++◌, Option, None, length, map}
use Rattle.std.proofs.Common.{refl, sym, ap, ◌∙◌, arith}
use Rattle.asp_model.specs.Names.{FutureShape}
use Rattle.asp_model.specs.Term.{Head, Tree, Trees, node, none, more, moved, moved_below, moved_head, locations}
use Rattle.asp_model.specs.Term as term
use Rattle.asp_model.specs.Store.{CellShape, Number, Object, Reference, Future, Group, Store, Field, MethodShape, cell, with_cell, moved_cell}
use Rattle.asp_model.specs.Parcel.{ParcelShape}
use Rattle.asp_model.specs.Contraction.{is_future}
use Rattle.def_paths.specs.Places.{entered_by, told}
use Rattle.law_chases.proofs.FutureLemmas.{none_true}

pub map_map : {A B C : Type 0} (f : A → B) (g : B → C) (h : A → C) → ((x : A) → g (f x) ≡ h x) → (xs : List A) → map g (map f xs) ≡ map h xs
map_map f g h e [] = refl
map_map f g h e (x ∷ xs) = λ i. e x i ∷ map_map f g h e xs i

head_twice : (f g : ℕ → ℕ) (h : Head) → moved_head g (moved_head f h) ≡ moved_head (λ n. g (f n)) h
head_twice f g (term.Loc n) = refl
head_twice f g h = refl

mutual
  pub moved_twice : (f g : ℕ → ℕ) (t : Tree) → moved g (moved f t) ≡ moved (λ n. g (f n)) t
  moved_twice f g (node h ts) = λ i. node (head_twice f g h i) (below_twice f g ts i)

  below_twice : (f g : ℕ → ℕ) (ts : Trees) → moved_below g (moved_below f ts) ≡ moved_below (λ n. g (f n)) ts
  below_twice f g none = refl
  below_twice f g (more t ts) = λ i. more (moved_twice f g t i) (below_twice f g ts i)

abbrev moved_method : (ℕ → ℕ) → MethodShape → MethodShape
moved_method f m = record { head = m.head; body = moved f m.body }

abbrev moved_field : (ℕ → ℕ) → Field → Field
moved_field f x = record { label = x.label; place = f x.place }

-- a cell that is renumbered shows the same
pub blank_moved : (f : ℕ → ℕ) (c : CellShape) → moved_cell (λ n. 0) (moved_cell f c) ≡ moved_cell (λ n. 0) c
blank_moved f (Object fs ms) = λ i. Object
    (map_map (moved_field f) (moved_field (λ n. 0)) (moved_field (λ n. 0)) (λ x. refl) fs i)
    (map_map (moved_method f) (moved_method (λ n. 0)) (moved_method (λ n. 0)) (λ m. λ k. record { head = m.head; body = moved_twice f (λ n. 0) m.body k }) ms i)
blank_moved f (Group ns) = ap Group (map_map f (λ n. 0) (λ n. 0) (λ n. refl) ns)
blank_moved f (Number z) = refl
blank_moved f (Reference n) = refl
blank_moved f (Future x) = refl

pub told_moved : (awaited : FutureShape → FutureShape) (f : ℕ → ℕ) (c : CellShape) → told awaited (moved_cell f c) ≡ told awaited c
told_moved awaited f (Future x) = refl
told_moved awaited f (Number z) = refl
told_moved awaited f (Object fs ms) = blank_moved f (Object fs ms)
told_moved awaited f (Reference n) = refl
told_moved awaited f (Group ns) = blank_moved f (Group ns)

pub entered_moved : (values : FutureShape → Option ParcelShape) (f : ℕ → ℕ) (c : CellShape) → entered_by values (moved_cell f c) ≡ entered_by values c
entered_moved values f (Future x) = refl
entered_moved values f (Number z) = refl
entered_moved values f (Object fs ms) = refl
entered_moved values f (Reference n) = refl
entered_moved values f (Group ns) = refl

-- a cell that is no future is not entered
pub not_entered : (values : FutureShape → Option ParcelShape) (c : CellShape) → is_future c ≡ false → entered_by values c ≡ None
not_entered values (Future f) h = none_true (sym h)
not_entered values (Number z) h = refl
not_entered values (Object fs ms) h = refl
not_entered values (Reference n) h = refl
not_entered values (Group ns) h = refl

-- Cells of a store that was written and made longer

pub cell_map : (f : ℕ → ℕ) (cs : List CellShape) (k : ℕ) → cell (map (moved_cell f) cs) k ≡ moved_cell f (cell cs k)
cell_map f [] k = refl
cell_map f (c ∷ cs) zero = refl
cell_map f (c ∷ cs) (suc k) = cell_map f cs k

pub cell_front : (s t : Store) (j : ℕ) → j < length s → cell (s ++ t) j ≡ cell s j
cell_front [] t j h = absurd (omega arith)
cell_front (c ∷ s) t zero h = refl
cell_front (c ∷ s) t (suc j) h = cell_front s t j (omega arith)

pub cell_back : (s t : Store) (k : ℕ) → cell (s ++ t) (k + length s) ≡ cell t k
cell_back [] t k = ap (cell t) (omega arith)
cell_back (c ∷ s) t k = let e : k + suc (length s) ≡ suc (k + length s) = omega arith in ap (cell (c ∷ s ++ t)) e ∙ cell_back s t k

pub cell_there : (s : Store) (i : ℕ) (c : CellShape) → i < length s → cell (with_cell s i c) i ≡ c
cell_there [] i c h = absurd (omega arith)
cell_there (d ∷ s) zero c h = refl
cell_there (d ∷ s) (suc i) c h = cell_there s i c (omega arith)

pub cell_elsewhere : (s : Store) (i j : ℕ) (c : CellShape) → j ≢ i → cell (with_cell s i c) j ≡ cell s j
cell_elsewhere [] i j c h = refl
cell_elsewhere (d ∷ s) zero zero c h = absurd (h refl)
cell_elsewhere (d ∷ s) zero (suc j) c h = refl
cell_elsewhere (d ∷ s) (suc i) zero c h = refl
cell_elsewhere (d ∷ s) (suc i) (suc j) c h = cell_elsewhere s i j c (λ e. h (ap suc e))
