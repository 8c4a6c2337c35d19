-- The deep copy of a cell that reaches no other.
use Rattle.std.proofs.Common.{◌≡◌, ◌∙◌, ◌<◌, ◌++◌, ℕ, zero, suc, true, false, List, [], ◌∷◌, Option, None, Some, length, map, refl, sym, ap, subst, arith}
use Rattle.std.proofs.lemmas.Bool.{eq-eqb}
use Rattle.asp_model.specs.Parcel.{ParcelShape, number_in, parcel_of, visit}
use Rattle.asp_model.specs.Store.{Store, cell, reached}
use Rattle.code_table.specs.declared.code.Node.{Node}
use Rattle.code_table.specs.declared.class.Class.{Class}
use Rattle.code_table.specs.Classes.{class_at}
use Rattle.code_table.specs.Sound.{IsSound}
use Rattle.code_table.specs.Cells as coded
use Rattle.code_table.specs.Cells.{CodedCell, CodedStore, moved_coded}
use Rattle.code_table.specs.Fits.{AllFitCode, FitsCode}
use Rattle.code_table.specs.Shapes.{cell_of, class_object, store_of}
use Rattle.code_table.proofs.CodedLemmas.{cell-store_of, length-store_of}
use Rattle.code_table.proofs.FitsLemmas.{fit_at}
use Rattle.deep_copy.specs.Leaves.{IsLeaf, IsLoneLeaf}
use Rattle.deep_copy.proofs.MeaningLemmas.{IsSoundClass, sound_class}
use Rattle.deep_copy.proofs.PackLemmas.{packed}
use Rattle.deep_copy.proofs.ReachedLemmas.{none_reached, object_reached}

visit_none : (n : ℕ) (s : Store) (seen : List ℕ) → visit n s [] seen ≡ seen
visit_none zero s seen = refl
visit_none (suc n) s seen = refl

lone_visit : (s : Store) (p n : ℕ) → p < n → reached (cell s p) ≡ [] → p ∷ [] ≡ visit n s (p ∷ []) []
lone_visit s p zero h e = absurd (omega (arith, h))
lone_visit s p (suc n) h e = sym (ap (λ rs. visit n s (rs ++ []) (p ∷ [])) e ∙ visit_none n s (p ∷ []))

own_number : (p : ℕ) → number_in (p ∷ []) p ≡ 0
own_number p = ap (λ b. elim b [ true ↦ 0 | false ↦ 1 ]) (eq-eqb p p refl)

leaf_stays : (f : ℕ → ℕ) (c : CodedCell) → IsLeaf c → c ≡ moved_coded f c
leaf_stays f (coded.Number n) h = refl
leaf_stays f (coded.Object k ns) h = ap (λ (ms : List ℕ). coded.Object k ms) h ∙ sym (ap (λ (ms : List ℕ). coded.Object k (map f ms)) h)
leaf_stays f (coded.Reference n) h = refl
leaf_stays f (coded.Future n) h = refl
leaf_stays f (coded.Group ns) h = absurd h

module _ (code : List Node) where
  bare_reaches_none : (k : Option Class) → IsSoundClass code k → reached (class_object code [] k) ≡ []
  bare_reaches_none None s = refl
  bare_reaches_none (Some k) s = sym (object_reached code k [] s) ∙ none_reached k

  reaches_none : IsSound code → (c : CodedCell) → IsLeaf c → reached (cell_of code c) ≡ []
  reaches_none sound (coded.Number n) h = refl
  reaches_none sound (coded.Object k ns) h = ap (λ (ms : List ℕ). reached (class_object code ms (class_at code k))) h ∙ bare_reaches_none (class_at code k) (sound_class code k sound)
  reaches_none sound (coded.Reference n) h = refl
  reaches_none sound (coded.Future n) h = refl
  reaches_none sound (coded.Group ns) h = absurd h

  pub leaf_packed : IsSound code → (s : CodedStore) (roots : List ℕ) (c : CodedCell) (cells : CodedStore) (numbers : List ℕ) → IsLoneLeaf s roots c → cells ≡ c ∷ [] → numbers ≡ 0 ∷ []
      → (let p : ParcelShape = record { cells = store_of code cells; roots = numbers } in p ≡ parcel_of (store_of code s) roots)
  leaf_packed sound s [] c cells numbers h copied numbered = absurd h
  leaf_packed sound s (p ∷ q ∷ ps) c cells numbers h copied numbered = absurd h
  leaf_packed sound s (p ∷ []) c cells numbers h copied numbered =
      let none : reached (cell (store_of code s) p) ≡ [] = ap reached (cell-store_of code s p) ∙ ap (λ d. reached (cell_of code d)) (sym h.1) ∙ reaches_none sound c h.2 in
      let within : p < length (store_of code s) = subst (λ n. p < n) (sym (length-store_of code s)) h.0 in
      packed code sound s (p ∷ []) (p ∷ []) numbers cells (lone_visit (store_of code s) p (length (store_of code s)) within none)
      (copied ∙ ap (λ d. d ∷ []) (leaf_stays (number_in (p ∷ [])) c h.2 ∙ ap (moved_coded (number_in (p ∷ []))) h.1))
      (numbered ∙ ap (λ n. n ∷ []) (sym (own_number p)))

  pub leaf_fits : (s : CodedStore) (roots : List ℕ) (c : CodedCell) (cells : CodedStore) → IsLoneLeaf s roots c → cells ≡ c ∷ [] → AllFitCode code s → AllFitCode code cells
  leaf_fits s [] c cells h copied fit = absurd h
  leaf_fits s (p ∷ q ∷ ps) c cells h copied fit = absurd h
  leaf_fits s (p ∷ []) c cells h copied fit =
      let here : FitsCode code c = subst (FitsCode code) (sym h.1) (fit_at code s p fit) in
      subst (AllFitCode code) (sym copied) (here, tt)
