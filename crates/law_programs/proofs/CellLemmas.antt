-- Proper cells: read, written, copied, and made of proper nodes.
use Rattle.std.specs.Prelude.{◌≡◌, ℕ, zero, suc, Bool, true, false, List, [], ◌∷◌, ◌++◌, Option, Some, None, length, map}
use Rattle.std.proofs.Common.{refl, sym, ap, subst, ◌∙◌, arith}
use Rattle.std.proofs.lemmas.Bool.{eq-eqb}
use Rattle.asp_model.specs.Names.{Text, same_text}
use Rattle.asp_model.specs.Term.{MethodHead, Trees, none, more, locs_then, child_count, moved}
use Rattle.asp_model.specs.Store.{MethodShape, Field, CellShape, Object, Store, cell, with_cell, moved_cell, reached}
use Rattle.asp_model.specs.Parcel.{parcel_of, visit_order, number_in, visit, walk, has_place}
use Rattle.asp_model.specs.Contraction.{fields_at, methods_with, with_field, method_at}
use Rattle.law_steps.specs.Linked.{Each}
use Rattle.law_steps.proofs.EachLemmas.{each_mapped}
use Rattle.law_programs.specs.Proper.{names_bound, are_single, IsProper, AreProper, IsProperMethod, IsProperCell, IsProperParcel, BeginsWithRoot}
use Rattle.law_programs.proofs.ScopeLemmas.{moved_proper}

-- Stores

pub cell_proper : (s : Store) → Each IsProperCell s → (n : ℕ) → IsProperCell (cell s n)
cell_proper [] h n = tt
cell_proper (c ∷ cs) h zero = h.0
cell_proper (c ∷ cs) h (suc n) = cell_proper cs h.1 n

pub written_proper : (s : Store) (n : ℕ) (d : CellShape) → Each IsProperCell s → IsProperCell d → Each IsProperCell (with_cell s n d)
written_proper [] n d h k = tt
written_proper (c ∷ cs) zero d h k = (k, h.1)
written_proper (c ∷ cs) (suc n) d h k = (h.0, written_proper cs n d h.1 k)

-- Copies

module _ (f : ℕ → ℕ) where
  abbrev moved_field : Field → Field
  moved_field x = record { label = x.label; place = f x.place }

  abbrev moved_method : MethodShape → MethodShape
  moved_method m = record { head = m.head; body = moved f m.body }

  field_labels : (fields : List Field) → map (λ x. x.label) (map moved_field fields) ≡ map (λ x. x.label) fields
  field_labels [] = refl
  field_labels (x ∷ fields) = ap (λ ls. x.label ∷ ls) (field_labels fields)

  method_heads : (methods : List MethodShape) → map (λ m. m.head) (map moved_method methods) ≡ map (λ m. m.head) methods
  method_heads [] = refl
  method_heads (m ∷ methods) = ap (λ hs. m.head ∷ hs) (method_heads methods)

  moved_cell_proper : (c : CellShape) → IsProperCell c → IsProperCell (moved_cell f c)
  moved_cell_proper (Object fields methods) h = (
    (λ i. are_single (field_labels fields i) (method_heads methods i)) ∙ h.0,
    each_mapped IsProperMethod IsProperMethod moved_method (λ m k. moved_proper f (names_bound m.head) m.body k) methods h.1,
  )
  moved_cell_proper c h = tt

  pub all_moved : (cs : List CellShape) → Each IsProperCell cs → Each IsProperCell (map (moved_cell f) cs)
  all_moved = each_mapped IsProperCell IsProperCell (moved_cell f) moved_cell_proper

  all_taken : (s : Store) → Each IsProperCell s → (ns : List ℕ) → Each IsProperCell (map (λ p. moved_cell f (cell s p)) ns)
  all_taken s h [] = tt
  all_taken s h (n ∷ ns) = (moved_cell_proper (cell s n) (cell_proper s h n), all_taken s h ns)

-- what a visit has seen first stays first
module _ (s : Store) (i : ℕ) where
  first_still : (seen : List ℕ) → number_in (i ∷ seen) i ≡ 0
  first_still seen = ap (λ (b : Bool). elim b [ true ↦ 0 | false ↦ suc (number_in seen i) ]) (eq-eqb i i refl)

  first_walked : (next : List ℕ → List ℕ → List ℕ) → ((todo seen : List ℕ) → number_in (next todo (i ∷ seen)) i ≡ 0) → (todo seen : List ℕ) → number_in (walk next s todo (i ∷ seen)) i ≡ 0
  first_walked next to [] seen = first_still seen
  first_walked next to (p ∷ ps) seen = elim (has_place p (i ∷ seen)) as (λ b. number_in (elim b [ true ↦ walk next s ps (i ∷ seen) | false ↦ next (reached (cell s p) ++ ps) ((i ∷ seen) ++ p ∷ []) ]) i ≡ 0) [
    | true ↦ first_walked next to ps seen
    | false ↦ to (reached (cell s p) ++ ps) (seen ++ p ∷ [])
  ]

  first_in : (n : ℕ) (todo seen : List ℕ) → number_in (visit n s todo (i ∷ seen)) i ≡ 0
  first_in zero todo seen = first_still seen
  first_in (suc n) todo seen = first_walked (visit n s) (first_in n) todo seen

  first_number : number_in (visit_order s (i ∷ [])) i ≡ 0
  first_number = by_fuel (length s)
    where
      by_fuel : (n : ℕ) → number_in (visit n s (i ∷ []) []) i ≡ 0
      by_fuel zero = refl
      by_fuel (suc n) = first_in n (reached (cell s i) ++ []) []

one_root : (s : Store) (roots : List ℕ) → BeginsWithRoot (parcel_of s roots)
one_root s [] k e = cc
one_root s (i ∷ []) k e = sym (first_of e) ∙ first_number s i
  where
    first_of : {a b : ℕ} → a ∷ [] ≡ b ∷ [] → a ≡ b
    first_of q = cc
one_root s (i ∷ j ∷ roots) k e = cc

-- a deep copy
pub parcel_proper : (s : Store) (roots : List ℕ) → Each IsProperCell s → IsProperParcel (parcel_of s roots)
parcel_proper s roots h = record { cells = all_taken (number_in (visit_order s roots)) s h (visit_order s roots); root = one_root s roots }

-- Objects

pub labels_kept : (ls : List Text) (ns : List ℕ) → length ns ≡ length ls → map (λ f. f.label) (fields_at ls ns) ≡ ls
labels_kept [] ns e = refl
labels_kept (l ∷ ls) [] e = absurd (omega (arith, e))
labels_kept (l ∷ ls) (n ∷ ns) e = ap (λ ms. l ∷ ms) (labels_kept ls ns (omega (arith, e)))

pub heads_kept : (ms : List MethodHead) (ts : Trees) → child_count ts ≡ length ms → map (λ m. m.head) (methods_with ms ts) ≡ ms
heads_kept [] ts e = refl
heads_kept (m ∷ ms) none e = absurd (omega (arith, e))
heads_kept (m ∷ ms) (more t ts) e = ap (λ xs. m ∷ xs) (heads_kept ms ts (omega (arith, e)))

pub labels_written : (l : Text) (n : ℕ) (fields : List Field) → map (λ f. f.label) (with_field l n fields) ≡ map (λ f. f.label) fields
labels_written l n [] = refl
labels_written l n (f ∷ fields) = elim (same_text l f.label) as (λ b. map (λ (x : Field). x.label) (elim b [ true ↦ record { label = f.label; place = n } ∷ fields | false ↦ f ∷ with_field l n fields ]) ≡ f.label ∷ map (λ x. x.label) fields) [
  | true ↦ refl
  | false ↦ ap (λ ls. f.label ∷ ls) (labels_written l n fields)
]

nothing_more : (xs : List Text) → xs ++ [] ≡ xs
nothing_more [] = refl
nothing_more (x ∷ xs) = ap (λ ys. x ∷ ys) (nothing_more xs)

pub bodies_proper : (ms : List MethodHead) (ts : Trees) → AreProper [] (map names_bound ms) ts → Each IsProperMethod (methods_with ms ts)
bodies_proper [] ts h = tt
bodies_proper (m ∷ ms) none h = tt
bodies_proper (m ∷ ms) (more t ts) h = (subst (λ xs. IsProper xs t) (nothing_more (names_bound m)) h.0, bodies_proper ms ts h.1)

-- the terms behind those of the fields
pub behind_fields : (fields : List Text) (ns : List ℕ) (names : List (List Text)) (ts : Trees) → length ns ≡ length fields → AreProper [] (map (λ f. []) fields ++ names) (locs_then ns ts) → AreProper [] names ts
behind_fields [] [] names ts e h = h
behind_fields [] (n ∷ ns) names ts e h = absurd (omega (arith, e))
behind_fields (f ∷ fields) [] names ts e h = absurd (omega (arith, e))
behind_fields (f ∷ fields) (n ∷ ns) names ts e h = behind_fields fields ns names ts (omega (arith, e)) h.1

abbrev pub FoundProper : Option MethodShape → Type 0
FoundProper None = Unit {0}
FoundProper (Some m) = IsProperMethod m

pub found_proper : (l : Text) (ms : List MethodShape) → Each IsProperMethod ms → FoundProper (method_at l ms)
found_proper l [] h = tt
found_proper l (m ∷ ms) h = elim (same_text l m.head.label) as (λ b. FoundProper (elim b [ true ↦ Some m | false ↦ method_at l ms ])) [ true ↦ h.0 | false ↦ found_proper l ms h.1 ]
