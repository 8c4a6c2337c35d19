-- The copies of what is visited, by their code.
use Rattle.std.proofs.Common.{◌≡◌, ℕ, List, [], ◌∷◌, length, map, refl, sym, ap, subst, ◌∙◌}
use Rattle.asp_model.specs.Parcel.{ParcelShape, number_in, numbered, visit_order, parcel_of}
use Rattle.asp_model.specs.Store.{cell, moved_cell}
use Rattle.law_steps.specs.Closed.{AreBelow, IsClosedParcel, IsClosedStore}
use Rattle.law_steps.proofs.VisitLemmas.{packed_closed}
use Rattle.code_table.specs.declared.code.Node.{Node}
use Rattle.code_table.specs.Sound.{IsSound}
use Rattle.code_table.specs.Cells.{CodedStore, cell_at, moved_coded}
use Rattle.code_table.specs.Fits.{AllFitCode}
use Rattle.code_table.specs.Shapes.{store_of}
use Rattle.code_table.proofs.CodedLemmas.{cell-store_of, length-store_of}
use Rattle.code_table.proofs.FitsLemmas.{fit_at, fits_moved}
use Rattle.deep_copy.proofs.MeaningLemmas.{cell_moved}

abbrev pub copies_of : (ℕ → ℕ) → CodedStore → List ℕ → CodedStore
copies_of f s ps = map (λ p. moved_coded f (cell_at s p)) ps

module _ (code : List Node) where
  copies_meant : IsSound code → (f : ℕ → ℕ) (s : CodedStore) (ps : List ℕ) → store_of code (copies_of f s ps) ≡ map (λ p. moved_cell f (cell (store_of code s) p)) ps
  copies_meant sound f s [] = refl
  copies_meant sound f s (p ∷ ps) = λ i. (cell_moved code sound f (cell_at s p) ∙ ap (moved_cell f) (sym (cell-store_of code s p))) i ∷ copies_meant sound f s ps i

  pub copies_fit : (f : ℕ → ℕ) (s : CodedStore) (ps : List ℕ) → AllFitCode code s → AllFitCode code (copies_of f s ps)
  copies_fit f s [] h = tt
  copies_fit f s (p ∷ ps) h = (fits_moved code f (cell_at s p) (fit_at code s p h), copies_fit f s ps h)

  pub packed : IsSound code → (s : CodedStore) (order roots numbers : List ℕ) (cells : CodedStore) → order ≡ visit_order (store_of code s) roots → cells ≡ copies_of (number_in order) s order → numbers ≡ map (number_in order) roots
      → (let p : ParcelShape = record { cells = store_of code cells; roots = numbers } in p ≡ parcel_of (store_of code s) roots)
  packed sound s order roots numbers cells visited copied numbered_so =
      (λ i. record { cells = (ap (store_of code) copied ∙ copies_meant sound (number_in order) s order) i; roots = numbered_so i }) ∙ ap (λ ks. numbered (store_of code s) ks roots) visited

  pub parcel_closed : (s : CodedStore) (roots : List ℕ) → IsClosedStore (store_of code s) → AreBelow (length s) roots → IsClosedParcel (parcel_of (store_of code s) roots)
  parcel_closed s roots closed below = packed_closed (store_of code s) roots closed (subst (λ n. AreBelow n roots) (sym (length-store_of code s)) below)
