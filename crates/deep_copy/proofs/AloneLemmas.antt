-- What is unpacked with no cells before stays as it is.
use Rattle.std.proofs.Common.{◌≡◌, ◌∙◌, ℕ, ◌+◌, List, [], ◌∷◌, map, refl, sym, ap, arith}
use Rattle.asp_model.specs.Parcel.{unpack}
use Rattle.code_table.specs.declared.code.Node.{Node}
use Rattle.code_table.specs.Sound.{IsSound}
use Rattle.code_table.specs.Cells.{CodedCell, CodedStore, Number, Object, Reference, Future, Group, moved_coded}
use Rattle.code_table.specs.Shapes.{store_of}
use Rattle.deep_copy.proofs.MeaningLemmas.{store_moved}
use Rattle.deep_copy.proofs.UnpackLemmas.{parcel_with}

places_stay : (ns : List ℕ) → map (λ n. n + 0) ns ≡ ns
places_stay [] = refl
places_stay (n ∷ ns) = let e : n + 0 ≡ n = omega arith in λ i. e i ∷ places_stay ns i

cell_stays : (c : CodedCell) → moved_coded (λ n. n + 0) c ≡ c
cell_stays (Number n) = refl
cell_stays (Object k ns) = ap (Object k) (places_stay ns)
cell_stays (Reference a) = refl
cell_stays (Future f) = refl
cell_stays (Group ns) = ap Group (places_stay ns)

cells_stay : (cs : CodedStore) → map (moved_coded (λ n. n + 0)) cs ≡ cs
cells_stay [] = refl
cells_stay (c ∷ cs) = λ i. cell_stays c i ∷ cells_stay cs i

pub taken_over : (code : List Node) → IsSound code → (cells : CodedStore) (roots : List ℕ) → store_of code cells ≡ unpack [] (parcel_with code cells roots)
taken_over code sound cells roots = ap (store_of code) (sym (cells_stay cells)) ∙ store_moved code sound (λ n. n + 0) cells
