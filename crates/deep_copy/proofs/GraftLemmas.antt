-- Cells that are moved one after another, and the first one to a place.
use Rattle.std.proofs.Common.{◌≡◌, ℕ, zero, suc, ◌+◌, ◌<◌, ◌≤◌, [], ◌∷◌, ◌++◌, length, take, drop, map, refl, sym, ap, ◌∙◌, arith, append_assoc, append-nil}
use Rattle.std.proofs.lemmas.List.{map-append}
use Rattle.code_table.specs.Cells.{CodedCell, CodedStore, cell_at, moved_coded, with_cell_at, with_coded_at}
use Rattle.code_table.proofs.CodedLemmas.{take_cell}

none_between : (from : ℕ) (s : CodedStore) → drop from (take from s) ≡ []
none_between zero s = refl
none_between (suc from) [] = refl
none_between (suc from) (c ∷ s) = none_between from s

take_past : (s : CodedStore) (at : ℕ) → length s ≤ at → take at s ≡ s
take_past [] zero le = refl
take_past [] (suc at) le = refl
take_past (c ∷ s) zero le = absurd (omega arith)
take_past (c ∷ s) (suc at) le = ap (λ (t : CodedStore). c ∷ t) (take_past s at (omega arith))

between_more : (s : CodedStore) (from at : ℕ) → from ≤ at → at < length s → drop from (take (at + 1) s) ≡ drop from (take at s) ++ cell_at s at ∷ []
between_more s zero at le lt = take_cell s at lt
between_more [] (suc from) at le lt = absurd (omega arith)
between_more (c ∷ s) (suc from) zero le lt = absurd (omega arith)
between_more (c ∷ s) (suc from) (suc at) le lt =
    let on : suc at + 1 ≡ suc (at + 1) = omega arith in
    ap (λ n. drop (suc from) (take n (c ∷ s))) on ∙ between_more s from at (omega arith) (omega arith)

module _ (f : ℕ → ℕ) (old s : CodedStore) (from : ℕ) where
  -- the store with the cells from one up to another behind its own
  abbrev pub appended : ℕ → CodedStore
  appended at = old ++ map (moved_coded f) (drop from (take at s))

  pub none_appended : old ≡ appended from
  none_appended = sym (append-nil old) ∙ ap (λ (t : CodedStore). old ++ map (moved_coded f) t) (sym (none_between from s))

  pub one_appended : (at : ℕ) (now : CodedStore) (c : CodedCell) → from ≤ at → at < length s → now ≡ appended at → c ≡ cell_at s at → now ++ moved_coded f c ∷ [] ≡ appended (at + 1)
  one_appended at now c le lt e is =
      (λ i. e i ++ moved_coded f (is i) ∷ []) ∙ append_assoc old (map (moved_coded f) (drop from (take at s))) (moved_coded f (cell_at s at) ∷ [])
      ∙ ap (λ (t : CodedStore). old ++ t) (sym (map-append (moved_coded f) (drop from (take at s)) (cell_at s at ∷ [])))
      ∙ ap (λ (t : CodedStore). old ++ map (moved_coded f) t) (sym (between_more s from at le lt))

  pub all_appended : (at : ℕ) → length s ≤ at → appended at ≡ old ++ map (moved_coded f) (drop from s)
  all_appended at le = ap (λ (t : CodedStore). old ++ map (moved_coded f) (drop from t)) (take_past s at le)

with_cell_at-append : (s t : CodedStore) (p : ℕ) (c : CodedCell) → p < length s → with_cell_at (s ++ t) p c ≡ with_cell_at s p c ++ t
with_cell_at-append [] t p c lt = absurd (omega arith)
with_cell_at-append (d ∷ s) t zero c lt = refl
with_cell_at-append (d ∷ s) t (suc p) c lt = ap (λ (u : CodedStore). d ∷ u) (with_cell_at-append s t p c (omega arith))

-- the first cell at a place, and the others behind
pub grafted_moved : (f : ℕ → ℕ) (old s : CodedStore) (p : ℕ) → p < length old → 0 < length s → with_cell_at (old ++ map (moved_coded f) (drop 1 s)) p (moved_coded f (cell_at s 0)) ≡ with_coded_at old p (map (moved_coded f) s)
grafted_moved f old [] p lt some = absurd (omega arith)
grafted_moved f old (c ∷ s) p lt some = with_cell_at-append old (map (moved_coded f) s) p (moved_coded f c) lt
