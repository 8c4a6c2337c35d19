-- The last cell of a store, and others before it.
use Rattle.std.proofs.Common.{◌≡◌, ℕ, zero, suc, ◌+◌, ◌-◌, ◌<◌, [], ◌∷◌, ◌++◌, length, take, refl, sym, ap, ◌∙◌, arith, length-append}
use Rattle.code_table.specs.Cells.{CodedCell, CodedStore, cell_at}
use Rattle.code_table.proofs.CodedLemmas.{take_cell}
use Rattle.object_store.specs.Finder.{but_last}

take_all : (s : CodedStore) → take (length s) s ≡ s
take_all [] = refl
take_all (c ∷ s) = ap (λ (t : CodedStore). c ∷ t) (take_all s)

take_before : (s t : CodedStore) → take (length s) (s ++ t) ≡ s
take_before [] t = refl
take_before (c ∷ s) t = ap (λ (u : CodedStore). c ∷ u) (take_before s t)

-- all but the last, with the last behind
pub whole : (s : CodedStore) → 0 < length s → s ≡ but_last s ++ cell_at s (length s - 1) ∷ []
whole s some =
    let more : length s - 1 + 1 ≡ length s = omega (arith, some) in
    let less : length s - 1 < length s = omega (arith, some) in
    sym (take_all s) ∙ ap (λ n. take n s) (sym more) ∙ take_cell s (length s - 1) less

pub last_count : (s : CodedStore) (c : CodedCell) → length (s ++ c ∷ []) - 1 ≡ length s
last_count s c = omega (arith, length-append s (c ∷ []))

pub but_one : (s : CodedStore) (c : CodedCell) → but_last (s ++ c ∷ []) ≡ s
but_one s c = ap (λ n. take n (s ++ c ∷ [])) (last_count s c) ∙ take_before s (c ∷ [])

pub last_at : (s : CodedStore) (c : CodedCell) → cell_at (s ++ c ∷ []) (length s) ≡ c
last_at [] c = refl
last_at (d ∷ s) c = last_at s c

pub before_last : (s : CodedStore) (c : CodedCell) (p : ℕ) → p < length s → cell_at (s ++ c ∷ []) p ≡ cell_at s p
before_last [] c p lt = absurd (omega arith)
before_last (d ∷ s) c zero lt = refl
before_last (d ∷ s) c (suc p) lt = before_last s c p (omega arith)

pub one_longer : (s t : CodedStore) (c : CodedCell) → t ≡ s ++ c ∷ [] → length t ≡ length s + 1
one_longer s t c e = ap (λ (u : CodedStore). length u) e ∙ length-append s (c ∷ [])
