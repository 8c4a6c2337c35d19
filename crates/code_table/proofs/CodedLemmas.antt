-- Stores by their code, after each change of their cells.
use Rattle.std.proofs.Common.{◌≡◌, ℕ, zero, suc, ◌+◌, ◌<◌, List, [], ◌∷◌, ◌++◌, length, take, drop, refl, ap, ◌∙◌, arith}
use Rattle.std.proofs.lemmas.List.{map-append, length-map}
use Rattle.asp_model.specs.Store.{Store, cell, with_cell}
use Rattle.asp_model.specs.Parcel.{with_cells_at}
use Rattle.code_table.specs.declared.code.Node.{Node}
use Rattle.code_table.specs.Cells.{CodedCell, CodedStore, cell_at, with_cell_at, with_coded_at}
use Rattle.code_table.specs.Shapes.{cell_of, store_of}

pub length-store_of : (code : List Node) (cs : CodedStore) → length (store_of code cs) ≡ length cs
length-store_of code cs = length-map cs (cell_of code)

pub store_of-append : (code : List Node) (cs ds : CodedStore) → store_of code (cs ++ ds) ≡ store_of code cs ++ store_of code ds
store_of-append code cs ds = map-append (cell_of code) cs ds

pub cell-store_of : (code : List Node) (cs : CodedStore) (p : ℕ) → cell (store_of code cs) p ≡ cell_of code (cell_at cs p)
cell-store_of code [] p = refl
cell-store_of code (c ∷ cs) zero = refl
cell-store_of code (c ∷ cs) (suc p) = cell-store_of code cs p

pub store_of-with : (code : List Node) (cs : CodedStore) (p : ℕ) (c : CodedCell) → store_of code (with_cell_at cs p c) ≡ with_cell (store_of code cs) p (cell_of code c)
store_of-with code [] p d = refl
store_of-with code (c ∷ cs) zero d = refl
store_of-with code (c ∷ cs) (suc p) d = ap (λ (s : Store). cell_of code c ∷ s) (store_of-with code cs p d)

pub store_of-with_coded : (code : List Node) (cs ds : CodedStore) (p : ℕ) → store_of code (with_coded_at cs p ds) ≡ with_cells_at (store_of code cs) p (store_of code ds)
store_of-with_coded code cs [] p = refl
store_of-with_coded code cs (d ∷ ds) p = store_of-append code (with_cell_at cs p d) ds ∙ ap (λ (s : Store). s ++ store_of code ds) (store_of-with code cs p d)

pub length-with_cell_at : (cs : CodedStore) (p : ℕ) (c : CodedCell) → length (with_cell_at cs p c) ≡ length cs
length-with_cell_at [] p d = refl
length-with_cell_at (c ∷ cs) zero d = refl
length-with_cell_at (c ∷ cs) (suc p) d = ap suc (length-with_cell_at cs p d)

-- One cell more, and one less

take_next : (s : CodedStore) (p : ℕ) → p < length s → take (suc p) s ≡ take p s ++ cell_at s p ∷ []
take_next [] p h = absurd (omega arith)
take_next (c ∷ s) zero h = refl
take_next (c ∷ s) (suc p) h = ap (λ (t : CodedStore). c ∷ t) (take_next s p (omega arith))

pub take_cell : (s : CodedStore) (p : ℕ) → p < length s → take (p + 1) s ≡ take p s ++ cell_at s p ∷ []
take_cell s p h = let e : p + 1 ≡ suc p = omega arith in ap (λ n. take n s) e ∙ take_next s p h

drop_next : (s : CodedStore) (p : ℕ) → p < length s → drop p s ≡ cell_at s p ∷ drop (suc p) s
drop_next [] p h = absurd (omega arith)
drop_next (c ∷ s) zero h = refl
drop_next (c ∷ s) (suc p) h = drop_next s p (omega arith)

pub drop_cell : (s : CodedStore) (p : ℕ) → p < length s → drop p s ≡ cell_at s p ∷ drop (p + 1) s
drop_cell s p h = let e : suc p ≡ p + 1 = omega arith in drop_next s p h ∙ ap (λ n. cell_at s p ∷ drop n s) e

pub only_at : (c : CodedCell) (p : ℕ) → p < length (c ∷ []) → cell_at (c ∷ []) p ≡ c
only_at c zero lt = refl
only_at c (suc p) lt = absurd (omega arith)
